mod Lists
mod Made
mod Results
mod Settling
mod Step
