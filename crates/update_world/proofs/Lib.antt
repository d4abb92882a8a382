mod Differ
mod Calls
mod Disks
mod Kept
mod Left
mod Lists
mod Runs
