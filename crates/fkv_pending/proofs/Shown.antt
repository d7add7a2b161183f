-- What crates above may cite.
pub use Rattle.fkv_pending.proofs.AttemptAnswers.{answers_so}
pub use Rattle.fkv_pending.proofs.AttemptAsks.{attempt_left, attempt_begun_left, attempt_fewer}
pub use Rattle.fkv_pending.proofs.AttemptEffects.{effects_told}
pub use Rattle.fkv_pending.proofs.AttemptPuts.{puts_where_free}
pub use Rattle.fkv_pending.proofs.AttemptRests.{is_attempt_end, AttemptAsksAt, AttemptRestsOrAsks, attempt_done, attempt_begun_rests, attempt_begun_asks, attempt_rests}
pub use Rattle.fkv_pending.proofs.AttemptRuns.{run_true}
pub use Rattle.fkv_pending.proofs.AttemptSpares.{spare_is_kept}
pub use Rattle.fkv_pending.proofs.AttemptTries.{held_is_kept, tries_are_kept}
pub use Rattle.fkv_pending.proofs.Boxes.{box_moved, moved_box, spared_box, reply_in, replied_in}
pub use Rattle.fkv_pending.proofs.MailAsks.{mail_left, mail_done, mail_fewer}
pub use Rattle.fkv_pending.proofs.MailRuns.{IsSound, happens_sound, opening_sound, run_sound, moment_sound}
pub use Rattle.fkv_pending.proofs.MailSound.{Stands, KnowsMail, KnowsKeeper, IsKept}
pub use Rattle.fkv_pending.proofs.Gone.{gone_spoiled, there_said}
