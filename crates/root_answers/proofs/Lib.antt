mod Checked
mod Completed
mod Directory
mod Ends
mod First
mod Updated
