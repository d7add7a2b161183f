-- What the clauses of `src` say: they take all of it under one name.
pub use Rattle.clap.specs.Simple.{app_of}
pub use Rattle.clap.specs.Walk.{texts}
pub use Rattle.fkv_base.specs.declared.faults.Fault.TheVariants.{BadShape}
pub use Rattle.fkv_lines.specs.declared.scripts.Sizes.{Sizes as TheSizes}
pub use Rattle.fkv_renew.specs.Answers.{IsAnswer, IsAnswerTo, IsUnreadAnswer, fault_of_refusal, status_of_refusal}
pub use Rattle.fkv_renew.specs.Asked.{AreAskedSizes, AreSizesOf, Spells, TellsAsked, command_line, keys_by}
pub use Rattle.fkv_renew.specs.Files.{files_of}
pub use Rattle.fkv_renew.specs.Renewals.{IsHindrance, IsRefusal, IsRenewalOf, IsSavedFrom, IsUnrenewed, IsWanted, Renews, refusal_by, refusal_of_old, saved_of}
pub use Rattle.fkv_renew.specs.Saved.{bytes_up_to, change_line, saved_text, taken_of}
pub use Rattle.fkv_renew.specs.Sizes.{AreSizes, HasSizes}
pub use Rattle.fkv_renew.specs.Stores.{IsHeld, IsLaid, IsUnread}
pub use Rattle.fkv_renewing.specs.Room.{HasRoomFor}
pub use Rattle.fkv_runs.specs.Beginnings.{BreaksOff}
pub use Rattle.fkv_runs.specs.Below.fkv_playing.InTurn.{Writes}
pub use Rattle.fkv_texts.specs.Lines.{line_of}
pub use Rattle.fkv_texts.specs.Refusals.{last_refusal}
pub use Rattle.std.specs.Io.KnownBytes.{Appends}
pub use Rattle.std.specs.Prelude.{IfErr, IfOk, IfSome, IsSomeAnd, OnErr, OnOk, codes, option_map}
