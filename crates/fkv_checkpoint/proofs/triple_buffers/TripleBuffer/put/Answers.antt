-- One triple more.
use Rattle.std.proofs.Common.{◌≡◌, ◌+◌, ◌*◌, ◌≤◌, ℕ, List, [], ◌∷◌, ◌++◌, length, arith, sym, ap, ◌∙◌, subst}
use Rattle.fkv_checkpoint.specs.Triples.{CopiedEntry, HeldTriples, entries_in, copied_of, copied_list, IsSpelled}
use Rattle.fkv_checkpoint.proofs.Buffers.{triple_length, triple_fits, entries_length, more_entries, more_spelled, put_behind}
use Rattle.fkv_checkpoint.proofs.triple_buffers.TripleBuffer.put.Goals as goal

-- there is room for it
has_room : (count most : ℕ) (bytes : List ℕ) (held : HeldTriples) (more : List CopiedEntry) (e : CopiedEntry) → ◌≡◌ {A = HeldTriples} (record { space = 16 * most; entries = entries_in count bytes }) held → more ≡ e ∷ [] → 16 * (length held.entries + length more) ≤ held.space → 16 * (count + 1) ≤ 16 * most
has_room count most bytes held more e view its fits =
    let long = entries_length count bytes in
    let here : 16 * (length (entries_in count bytes) + length more) ≤ 16 * most = subst (λ (x : HeldTriples). 16 * (length x.entries + length more) ≤ x.space) (sym view) fits in
    let one = ap length its in
    omega (arith, long, here, one)

pub append-requires : goal.append-requires
append-requires c =
    let few = has_room c.self.inside.count c.self.inside.most c.self.inside.bytes.items c.args.self.now (copied_list c.args.triple) (copied_of c.in-Some.triple) c.self.view_is (ap copied_list c.in-Some.is) c.requires in
    let long : length c.write_triple.result ≡ 16 = ap length c.write_triple.ensures ∙ triple_length c.in-Some.triple in
    let room = c.self.invariant.0 in
    let held = c.self.invariant.1 in
    omega (arith, few, long, room, held)

pub invariant_of-self : goal.invariant_of-self
invariant_of-self c =
    let items = c.self.inside.bytes.items in
    let long : length c.write_triple.result ≡ 16 = ap length c.write_triple.ensures ∙ triple_length c.in-Some.triple in
    let room = c.self.invariant.0 in
    let held = c.self.invariant.1 in
    let kept = c.append.ensures.capacity in
    let more = c.append.ensures.len in
    let made = put_behind c.in-Some.triple items c.write_triple.result c.append.new.bytes.items c.write_triple.ensures c.append.ensures.items in (
      omega (arith, room, kept),
      omega (arith, held, more, long),
      subst (IsSpelled (c.self.inside.count + 1)) (sym made) (more_spelled c.self.inside.count items (copied_of c.in-Some.triple) c.self.invariant.2 (triple_fits c.in-Some.triple)),
    )

pub returns-in-Some : goal.returns-in-Some
returns-in-Some c =
    let items = c.self.inside.bytes.items in
    let made = put_behind c.in-Some.triple items c.write_triple.result c.append.new.bytes.items c.write_triple.ensures c.append.ensures.items in
    rw (← c.self.view_is, c.in-Some.is)
    (ap {B = HeldTriples} (λ es. record { space = 16 * c.self.inside.most; entries = es })
    (ap (entries_in (c.self.inside.count + 1)) made ∙ more_entries c.self.inside.count items (copied_of c.in-Some.triple) c.self.invariant.2 (triple_fits c.in-Some.triple)))
