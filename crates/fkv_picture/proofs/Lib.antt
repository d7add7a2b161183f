mod Powers
mod Short
