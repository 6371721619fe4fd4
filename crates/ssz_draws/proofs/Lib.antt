mod Drawn
mod Fields
mod Choices
mod Lengths
mod Turning
mod Ways
