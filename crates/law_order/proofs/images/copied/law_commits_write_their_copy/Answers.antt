-- The law, by what is known of each commit as its writes begin.
use Rattle.std.proofs.Common.{◌∙◌, inl, inr, sym, subst, ℕ, List, map}
use Rattle.std.specs.List.{AllByRecursion}
use Rattle.law_commit.specs.Below.fkv_checkpoint.Copied.{copied_after}
use Rattle.law_commit.specs.Below.fkv_checkpoint.Fuzzy.{AreApart as AreHomesApart}
use Rattle.law_commit.specs.Below.fkv_checkpoint.Triples.{CopiedEntry, copied_of}
use Rattle.law_opening.specs.Below.fkv_core.Openings.{beginning}
use Rattle.law_opening.specs.Below.fkv_filling.OpeningIndex.{opening_lists}
use Rattle.law_commit.specs.Below.fkv_world.Opened.{IsOpenedWorld}
use Rattle.law_commit.specs.Below.fkv_world.OwnEvents.{keeper_events}
use Rattle.law_commit.specs.Below.fkv_world.Runs.{World}
use Rattle.law_commit.specs.Below.fkv_world.World.{Event}
use Rattle.law_commit.specs.Copied.Covers.{HasStoodSince}
use Rattle.law_commit.proofs.OfCopied.HomesApart.{one_of, triples_apart}
use Rattle.law_commit.specs.Below.law_world.Guarded.OpenedStore.{IsOpenedStore}
use Rattle.law_order.proofs.OfImages.AtRest.{opens_at_rest, world_opens}
use Rattle.law_order.proofs.OfImages.CopyWritten.{CopiesIfFull, all_copied}
use Rattle.law_order.proofs.OfImages.CopyInIndex.{stood_in_index}
use Rattle.law_order.proofs.OfImages.LifeNamed.{life_known}
use Rattle.law_opening.specs.Lives.OpenedFrom.{IsOpenedFrom}
use Rattle.law_commit.specs.Below.law_world.Keeper.Lives.{IsLifeTold, replies_copied}
use Rattle.law_order.proofs.images.copied.law_commits_write_their_copy.Goals as goal

pub returns-clause-copied : goal.returns-clause-copied
returns-clause-copied c = λ o n bytes events it store begins long is full.
    let opening : World = beginning n bytes in
    let opened : IsOpenedStore opening o.tail.0 = c.law_guard_opens.ensures o n bytes begins in
    let world : IsOpenedWorld opening = world_opens o n bytes begins opened in
    let from : IsOpenedFrom bytes o n = record { store = store; world = begins; long = c.law_long_opens.ensures.behind bytes o long store } in
    let life : IsLifeTold opening events = record { opened = world; told = c.law_told_opens.ensures bytes o n from; in_turn = c.law_begun.ensures.numbers opening o.tail.0 events world opened.now (opens_at_rest o n begins) } in
    elim (life_known opening (CopiesIfFull opening events) events life (all_copied opening events opened.now.keeper) it is) [
      | inl copied ↦ (let own = copied full in let its = own.its in inl (record {
        later = own.later;
        moment = own.moment;
        split = own.split;
        waits = own.waits;
        hand = own.hand;
        in_hand = own.in_hand;
        its = record { number = its.number; kind = its.kind; first = its.first; end = its.end };
        copied = own.copied;
        triples = own.triples;
      }))
      | inr first ↦ inr first
    ]

pub returns-clause-spelled : goal.returns-clause-spelled
returns-clause-spelled c = λ o n bytes events it store begins long is full. elim (returns-clause-copied c o n bytes events it store begins long is full) [
  | inr first ↦ inr first
  | inl own ↦
      let opening : World = beginning n bytes in
      let lists = opening_lists o.entries.items in
      let opened = c.law_index_opens.ensures.opened o n bytes begins in
      let moment : List Event = own.moment in
      let replies : List ℕ = replies_copied opening (keeper_events opening moment) in
      let by = c.law_world_copied.ensures.replies opening lists moment opened in
      let once = c.law_world_copied.ensures.once opening lists moment opened in
      let its = c.law_copied.ensures.triples n.places replies in
      let stood = c.law_copies_cover.ensures.stood opening lists moment opened in
      let all : AllByRecursion (HasStoodSince opening lists moment) (map copied_of its.triples) =
      subst (AllByRecursion (HasStoodSince opening lists moment)) (sym its.said) (subst (AllByRecursion (HasStoodSince opening lists moment)) by.triples stood) in
      let apart : AreHomesApart (copied_after n.places replies) = subst (λ (entries : List CopiedEntry). AreHomesApart entries) by.triples once in
      inl (record {
        triples = its.triples;
        spelled = its.spelled ∙ sym own.triples;
        in_index = λ i x there. stood_in_index opening lists moment opened (copied_of x) (one_of (HasStoodSince opening lists moment) its.triples i x all there);
        apart = triples_apart its.triples (subst (λ (entries : List CopiedEntry). AreHomesApart entries) (sym its.said) apart);
      })
]
