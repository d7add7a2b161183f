-- What the crates above may cite of these proofs.
pub use Rattle.fkv_lines.proofs.ScriptWords.{IsKeyWord, IsOfWords, IsCallOfWords, IsLineOfWords, AreSizesOfWords, IsOpeningOfWords, HasOpeningOfWords, IsScriptOfWords, script_words}
