mod Absent
mod Sets
mod Skips
mod Stars
