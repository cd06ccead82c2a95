mod Walks
mod Held
