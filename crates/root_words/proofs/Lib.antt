mod Apps
mod Chain
mod Parsed
mod Rows
