mod InShape
mod Ended
mod Followed
mod Asked
