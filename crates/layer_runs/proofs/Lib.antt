mod Adopted
mod Completed
mod Images
mod OneImage
mod Repaired
mod Statuses
