-- The session of the number stands in the list, or there is none.
use Rattle.std.proofs.Common.{◌≡◌, arith, sym, subst, refl, false, List}
use Rattle.std.specs.Prelude.{Option, Some, None, slice_get, slice_set}
use Rattle.std.proofs.lemmas.Option.{gets}
use Rattle.std.proofs.lemmas.Grind.{common_steps}
use Rattle.fkv_session.specs.Sessions.{Sitter}
use Rattle.fkv_core.specs.Worlds.{IsMovedBy}
use Rattle.fkv_core.proofs.worlds.moved.Goals as goal

pub returns-in-Some : goal.returns-in-Some
returns-in-Some c =
    let sitters : List Sitter = c.args.sessions.now.items in
    let s : Sitter = c.in-Some.session.now in
    let next : Sitter = c.session_move.new.session in
    let got : slice_get sitters c.args.number ≡ Some s = grind (arith, common_steps, gets) in
    subst (λ (it : Option Sitter). IsMovedBy c.args.number c.args.words.now c.session_move.new.words it sitters (slice_set sitters c.args.number next) c.session_move.result) (sym got)
    (record { next = next; its = record { put = refl; seat = c.session_move.ensures.seat }; moved = c.session_move.ensures.next; ends = c.session_move.ensures.ended })

pub returns-in-None : goal.returns-in-None
returns-in-None c =
    let sitters : List Sitter = c.args.sessions.now.items in
    let got : slice_get sitters c.args.number ≡ None = grind (arith, common_steps, gets) in
    subst (λ (it : Option Sitter). IsMovedBy c.args.number c.args.words.now c.args.words.now it sitters sitters false) (sym got) (refl, refl, refl)
