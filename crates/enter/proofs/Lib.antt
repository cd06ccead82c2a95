mod Steps
mod Heard
mod Unmarked
mod Bare
mod Plainly
mod Counts
