mod InTurn
mod Named
mod Reading
