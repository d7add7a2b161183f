-- Two lists of points are the same just where `==` says so.
use Rattle.std.proofs.Common.{◌≡◌, ℕ, ap, sym, ◌∙◌, nat_eq, rules}
use Rattle.std.proofs.lemmas.Slice.Eq.{slice_eq-Decides}
use Rattle.std.specs.Bool.{Decides}
use Rattle.std.specs.Cmp.{unsigned_Decides}
use Rattle.fkv_base.specs.declared.numbers.Serial.{Serial}
use Rattle.fkv_thread_scripts.proofs.reports.is_last.Goals as goal

same_serial : (a b : Serial) → Decides (nat_eq a.0 b.0) (a ≡ b)
same_serial a b = let d = unsigned_Decides a.0 b.0 in ((λ t. ap (λ (n : ℕ). record { 0 = n }) (d.0 t)), λ e. d.1 (ap (λ (s : Serial). s.0) e))

pub returns-then-eq : goal.returns-then-eq
returns-then-eq c =
    let mine = c.as_slice.ensures.value in let theirs = c.as_slice-then-eq.ensures.value in
    let d = slice_eq-Decides same_serial c.as_slice.result.now c.as_slice-then-eq.result.now c.eq-then-eq.result c.eq-then-eq.ensures in
    let number : c.in-Some.its.number ≡ c.args.opened.now.number = search rules in
    rw c.in-Some.is ((λ t. (number, sym mine ∙ (d.0 t ∙ theirs))), λ both. d.1 (mine ∙ (both.1 ∙ sym theirs)))
