use Rattle.std.proofs.Common.{ap, subst, sym, ◌++◌, ◌∙◌, map, ◌<◌, ◌^◌}
use Rattle.std.specs.Prelude.{All}
use Rattle.std.specs.Map.Iter.{deref_pair}
use Rattle.std.proofs.lemmas.Map.Iter.{rest_more}
use Rattle.std.proofs.lemmas.List.Elements.{All-push}
use Rattle.fkv_opening.specs.Entries.{place_of}
use Rattle.fkv_opening.specs.Listed.{listed}
use Rattle.fkv_opening.proofs.Listing.{list_with}
use Rattle.fkv_opening.proofs.entries.entries_of.Goals as goal

pub loop-home-preserved-in-Continue-1 : goal.loop-home-preserved-in-Continue-1
loop-home-preserved-in-Continue-1 c =
    let bits = c.args.bits in
    let x = c.in-Some-home_entry.entry in
    let entries = c.loop-home.entries.items in
    let left = rest_more deref_pair _ _ _ (c.in-Some.home, c.in-Some.known) c.in-Some.is c.next.ensures.steps in
    let so_far = c.loop-home.invariant in
    let told = c.in-Some-home_entry.ensures in
    let pushed = c.in_ok-push.ensures.items in (
      ap (λ xs. map place_of xs ++ listed bits c.next.new.self) pushed
          ∙ list_with bits c.args.homes.now.entries c.loop-home.home-iterator c.next.new.self entries c.in-Some.home.now c.in-Some.known.now so_far.0 left x told.0 told.1,
      subst (λ xs. All (λ y. y.bucket < 2 ^ bits) xs) (sym pushed) (All-push (λ y. y.bucket < 2 ^ bits) entries x so_far.1 told.2),
    )
