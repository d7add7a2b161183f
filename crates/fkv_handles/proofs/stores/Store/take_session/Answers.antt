-- What lies at the number is taken out of it.
use Rattle.std.proofs.Common.{◌≡◌, Some, None, length, slice_get, slice_set, refl, sym, ap, ◌∙◌, arith}
use Rattle.std.proofs.lemmas.Option.{slice_get_read}
use Rattle.fkv_handles.proofs.Shares.{set_same}
use Rattle.fkv_handles.proofs.stores.Store.take_session.Goals as goal

pub returns-in-None-take-clause-given : goal.returns-in-None-take-clause-given
returns-in-None-take-clause-given c =
    let items = c.args.self.now.sessions.items in
    let there : slice_get items c.args.number ≡ Some c.in-Some.place.now = slice_get_read items (length items) c.args.number c.in-Some.place.now refl (omega (arith, c.in-Some.ensures.variant.0 refl, c.args.self.now.sessions.ok.0)) c.in-Some.ensures.value in
    let none : slice_get items c.args.number ≡ Some None = there ∙ ap Some (sym c.take.ensures.value ∙ c.in-None-take.is) in
    rw none (refl, ap (slice_set items c.args.number) c.take.ensures.after ∙ set_same items c.args.number None none)

pub returns-in-Some-take-clause-given : goal.returns-in-Some-take-clause-given
returns-in-Some-take-clause-given c =
    let items = c.args.self.now.sessions.items in
    let there : slice_get items c.args.number ≡ Some c.in-Some.place.now = slice_get_read items (length items) c.args.number c.in-Some.place.now refl (omega (arith, c.in-Some.ensures.variant.0 refl, c.args.self.now.sessions.ok.0)) c.in-Some.ensures.value in
    let its : slice_get items c.args.number ≡ Some (Some c.in-Some-take.seated) = there ∙ ap Some (sym c.take.ensures.value ∙ c.in-Some-take.is) in
    rw its (refl, refl, ap (slice_set items c.args.number) c.take.ensures.after)
