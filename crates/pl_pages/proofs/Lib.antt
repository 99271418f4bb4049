mod Replays
mod Frames
mod Listing
mod Touching
mod Sizes
mod Images
