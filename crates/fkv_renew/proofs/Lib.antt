mod Answering
mod CommandLine
mod Flags
mod Refusing
mod Renewing
mod Spelling
