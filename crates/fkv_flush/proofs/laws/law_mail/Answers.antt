use Rattle.std.proofs.Common.{◌<◌, refl, sym, subst}
use Rattle.std.proofs.lemmas.Nat.{from_le_bytes-to_le_bytes_8}
use Rattle.fkv_plane.specs.declared.places.Places.{Places}
use Rattle.fkv_flush.specs.GuardWorld.{GuardWorld, guard_run}
use Rattle.fkv_flush.specs.Serving.{mail_place}
use Rattle.fkv_flush.specs.GuardMail.{mails_given}
use Rattle.fkv_flush.specs.Guarded.{opening}
use Rattle.fkv_flush.proofs.Calm.{same_stores}
use Rattle.fkv_flush.proofs.GuardLaw.{run_sound, opening_sound}
use Rattle.fkv_flush.proofs.GuardMail.{run_mail, opening_mail, changes_mail, finds_asked}
use Rattle.fkv_flush.proofs.laws.law_mail.Goals as goal

pub returns-clause-place : goal.returns-clause-place
unfolding mail_place
returns-clause-place c = λ shape session addr. refl

pub returns-clause-words : goal.returns-clause-words
returns-clause-words c = λ header key value header_fits key_fits value_fits.
    let header_is = from_le_bytes-to_le_bytes_8 header header_fits in
    let key_is = from_le_bytes-to_le_bytes_8 key key_fits in
    let value_is = from_le_bytes-to_le_bytes_8 value value_fits in
    cc

pub returns-clause-ready : goal.returns-clause-ready
returns-clause-ready c = λ shape places actors words start keeper events session o empty kept few.
    let first : GuardWorld = opening shape places actors words start in
    (run_mail keeper first events (opening_sound shape places actors words start o) (opening_mail keeper shape places actors words start empty) kept).ready session
    (subst (λ (p : Places). session < p.sessions) (sym (same_stores first events).1) few)

pub returns-clause-asked : goal.returns-clause-asked
returns-clause-asked c = λ shape places actors words start keeper events actor x begin step o empty kept got its.
    let first : GuardWorld = opening shape places actors words start in
    finds_asked keeper (mails_given first events) (guard_run first events).now actor x begin step
    (run_mail keeper first events (opening_sound shape places actors words start o) (opening_mail keeper shape places actors words start empty) kept) got its

pub returns-clause-left : goal.returns-clause-left
unfolding guard_run
returns-clause-left c = λ shape places actors words start keeper events event session o empty kept few.
    let first : GuardWorld = opening shape places actors words start in
    let sound = opening_sound shape places actors words start o in
    changes_mail keeper (mails_given first events) (guard_run first events) (run_sound first events sound)
    (run_mail keeper first events sound (opening_mail keeper shape places actors words start empty) kept.2) event session kept.1
    (subst (λ (p : Places). session < p.sessions) (sym (same_stores first events).1) few)
