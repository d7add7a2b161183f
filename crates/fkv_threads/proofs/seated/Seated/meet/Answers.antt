-- Both were ready at one table, and are ready there behind their passes' meeting.
use Rattle.std.proofs.Common.{sym, ap, ◌∙◌}
use Rattle.law_threads.specs.Below.fkv_table.Planes.{opening_of}
use Rattle.fkv_threads.proofs.Meetings.{meeting_of, two_ready}
use Rattle.fkv_threads.proofs.Shares.{ready_at}
use Rattle.fkv_threads.proofs.seated.Seated.meet.Goals as goal

pub join-pass-requires : goal.join-pass-requires
join-pass-requires g c =
    let at = opening_of g.D.Device.seen in
    let here = ready_at at _ _ _ _ _ _ _ _ (λ i. (c.deref.ensures i).table.shared.key) (λ i. (c.deref.ensures i).table.shared.table_id) c.self.invariant in
    let same_key = (λ i. (c.deref.ensures i).table.shared.key) ∙ (ap (λ s. s.key) c.self.view_is ∙ (sym c.requires.one_table.key ∙ sym (ap (λ s. s.key) c.other.view_is))) in
    let same_table = (λ i. (c.deref.ensures i).table.shared.table_id) ∙ (ap (λ s. s.table) c.self.view_is ∙ (sym c.requires.one_table.table ∙ sym (ap (λ s. s.table) c.other.view_is))) in
    record {
      ready = two_ready at _ _ _ _ _ _ _ _ c.self.inside.session.machine c.other.inside.session.machine _ _ same_key same_table
          (λ same. c.requires.one_table.apart (sym (ap (λ s. s.number) c.self.view_is) ∙ (same ∙ ap (λ s. s.number) c.other.view_is))) here c.other.invariant;
    }

pub new-requires : goal.new-requires
new-requires g c =
    let at = opening_of g.D.Device.seen in
    let here = ready_at at _ _ _ _ _ _ _ _ (λ i. (c.deref.ensures i).table.shared.key) (λ i. (c.deref.ensures i).table.shared.table_id) c.self.invariant in
    record { ready = ready_at at _ _ _ _ _ _ _ _ (λ i. (sym c.deref.ensures i).table.shared.key) (λ i. (sym c.deref.ensures i).table.shared.table_id) (c.join-pass.ensures.first _ _ here) }

pub new-requires-2 : goal.new-requires-2
new-requires-2 g c =
    let at = opening_of g.D.Device.seen in
    let same_key = (λ i. (c.deref.ensures i).table.shared.key) ∙ (ap (λ s. s.key) c.self.view_is ∙ (sym c.requires.one_table.key ∙ sym (ap (λ s. s.key) c.other.view_is))) in
    let same_table = (λ i. (c.deref.ensures i).table.shared.table_id) ∙ (ap (λ s. s.table) c.self.view_is ∙ (sym c.requires.one_table.table ∙ sym (ap (λ s. s.table) c.other.view_is))) in
    let there = ready_at at _ _ _ _ _ _ _ _ same_key same_table c.other.invariant in
    record { ready = ready_at at _ _ _ _ _ _ _ _ (sym same_key) (sym same_table) (c.join-pass.ensures.second _ _ there) }

pub returns : goal.returns
returns g c =
    let at = opening_of g.D.Device.seen in
    let here = ready_at at _ _ _ _ _ _ _ _ (λ i. (c.deref.ensures i).table.shared.key) (λ i. (c.deref.ensures i).table.shared.table_id) c.self.invariant in
    let same_key = (λ i. (c.deref.ensures i).table.shared.key) ∙ (ap (λ s. s.key) c.self.view_is ∙ (sym c.requires.one_table.key ∙ sym (ap (λ s. s.key) c.other.view_is))) in
    let same_table = (λ i. (c.deref.ensures i).table.shared.table_id) ∙ (ap (λ s. s.table) c.self.view_is ∙ (sym c.requires.one_table.table ∙ sym (ap (λ s. s.table) c.other.view_is))) in
    let there = ready_at at _ _ _ _ _ _ _ _ same_key same_table c.other.invariant in
    let first = ready_at at _ _ _ _ _ _ _ _ (λ i. (sym c.deref.ensures i).table.shared.key) (λ i. (sym c.deref.ensures i).table.shared.table_id) (c.join-pass.ensures.first _ _ here) in
    let second = ready_at at _ _ _ _ _ _ _ _ (sym same_key) (sym same_table) (c.join-pass.ensures.second _ _ there) in
    record {
      met = rw (← c.self.view_is, ← c.other.view_is, c.new.ensures.value, c.new-2.ensures.value)
          (meeting_of at (c.law_threads.ensures.goes_on at) _ _ _ _ _ _ _ _ _ _ _ _ _ _ _ _ c.self.invariant c.other.invariant c.join-pass.ensures.met first second);
    }
