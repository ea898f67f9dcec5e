mod Sizes
mod Textbook
