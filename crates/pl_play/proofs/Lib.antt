mod Feeds
mod Pieces
mod Bodies
mod Turns
mod Words
