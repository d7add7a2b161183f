mod Appending
mod Creating
mod Endings
mod Finding
mod Outputs
mod Words
