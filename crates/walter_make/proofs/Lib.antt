mod Drawings
mod Playable
