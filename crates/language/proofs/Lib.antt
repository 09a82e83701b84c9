mod Cut
mod Matching
mod Entering
