mod Arguments
mod LineByLine
mod LineEnds
mod Numerals
mod ScriptWords
pub mod Shown
