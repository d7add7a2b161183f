-- Numbers that fit in a word, in the words of `law_opening`.
pub use Rattle.law_opening.specs.Changes.Fits.{CallFits, CallsFit, CellFits, CellsFit, EventFits, ValueFits}
