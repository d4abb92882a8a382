pub mod LibraryNames
pub mod SearchDirs
