mod BelowRoot
mod LastName
mod NameParts
