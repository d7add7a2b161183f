mod CommandLine
mod Flags
mod Values
