mod BothStyles
mod InFormat
