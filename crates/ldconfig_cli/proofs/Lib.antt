mod ByArguments
mod Laws
