mod Keeping
mod Watching
