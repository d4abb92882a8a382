mod Apps
mod Found
mod Parsed
