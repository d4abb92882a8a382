pub mod AnyStamps
mod Bests
pub mod Endings
pub mod FilesAgree
pub mod FoundParts
pub mod Reliable
pub mod Judged
pub mod KeysBegun
pub mod KnownParts
pub mod Limits
pub mod Named
pub mod Opened
mod Replaced
mod Results
mod Rows
mod InfoBoth
pub mod SearchParts
pub mod StampsAgree
