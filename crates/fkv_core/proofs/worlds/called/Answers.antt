-- The session of the number stands in the list, or there is none.
use Rattle.std.proofs.Common.{◌≡◌, arith, sym, subst, refl, false, List}
use Rattle.std.specs.Prelude.{Option, Some, None, slice_get, slice_set}
use Rattle.std.proofs.lemmas.Option.{gets}
use Rattle.std.proofs.lemmas.Grind.{common_steps}
use Rattle.fkv_session.specs.Sessions.{Sitter}
use Rattle.fkv_core.specs.Worlds.{IsCallBegunBy}
use Rattle.fkv_core.proofs.worlds.called.Goals as goal

pub returns-in-Some : goal.returns-in-Some
returns-in-Some c =
    let sitters : List Sitter = c.args.sessions.now.items in
    let s : Sitter = c.in-Some.session.now in
    let next : Sitter = c.session_call.new.session in
    let got : slice_get sitters c.args.number ≡ Some s = grind (arith, common_steps, gets) in
    subst (λ (it : Option Sitter). IsCallBegunBy c.args.number c.args.call it sitters (slice_set sitters c.args.number next) c.session_call.result) (sym got)
    (record { next = next; its = record { put = refl; seat = c.session_call.ensures.seat }; begun = c.session_call.ensures.next; ends = c.session_call.ensures.ended })

pub returns-in-None : goal.returns-in-None
returns-in-None c =
    let sitters : List Sitter = c.args.sessions.now.items in
    let got : slice_get sitters c.args.number ≡ None = grind (arith, common_steps, gets) in
    subst (λ (it : Option Sitter). IsCallBegunBy c.args.number c.args.call it sitters sitters false) (sym got) (refl, refl)
