pub mod Writing
mod CallsToCome
mod Pieces
mod CountsSoFar
mod Joined
