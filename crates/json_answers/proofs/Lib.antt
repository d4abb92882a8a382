mod Plain
mod Steps
