-- There are at most twice as many ends as spans.
use Rattle.std.proofs.Common.{◌*◌, ◌≤◌, List, ◌++◌, length, map, sym, ap, subst, ⊎_elim, arith, ℤ}
use Rattle.std.specs.List.{Contains}
use Rattle.std.specs.Cmp.{signed_Decides}
use Rattle.std.specs.Ordering.{int_eq, is_eq}
use Rattle.std.proofs.lemmas.Cmp.{int_eq_equiv}
use Rattle.std.proofs.lemmas.List.{length-map, length-append}
use Rattle.std.proofs.lemmas.List.Elements.{Contains-append_left, Contains-append_right}
use Rattle.std.proofs.lemmas.Map.Keys.{IsDistinct-from_apart}
use Rattle.std.proofs.lemmas.Map.Made.{length-le_from_is_member}
use Rattle.std.proofs.lemmas.Map.Views.{list_any-from_Contains, Contains-from_any}
use Rattle.pgr_spans.specs.declared.span.Span.{Span}
use Rattle.pgr_spans.specs.Linked.{IsEndOf}
use Rattle.pgr_spans.specs.Lists.{AreEndsOf}
use Rattle.pgr_outside.proofs.Lists.{Contains-map}

-- the one ends of spans, and then the others
abbrev ends_in_turn : List Span → List ℤ
ends_in_turn spans = map (λ s. s.a) spans ++ map (λ s. s.b) spans

-- each end stands there
ends_to : (spans : List Span) (id : ℤ) → IsEndOf spans id → Contains (ends_in_turn spans) id
ends_to spans id (span, has, end) =
    ⊎_elim
    (λ at. Contains-append_left _ _ id (subst (Contains (map (λ s. s.a) spans)) (sym at) (Contains-map (λ s. s.a) spans span has)))
    (λ at. Contains-append_right _ _ id (subst (Contains (map (λ s. s.b) spans)) (sym at) (Contains-map (λ s. s.b) spans span has)))
    end

pub ends_few : (spans : List Span) (ends : List ℤ) → AreEndsOf spans ends → length ends ≤ 2 * length spans
ends_few spans ends are =
    let apart = IsDistinct-from_apart int_eq ends (λ i j d before inside. ap is_eq (are.rise i j d before inside)) in
    let fewer = length-le_from_is_member int_eq_equiv ends (ends_in_turn spans) apart
    (λ id there. list_any-from_Contains int_eq_equiv id (ends_in_turn spans)
    (ends_to spans id ((are.each id).0 (Contains-from_any (λ x y. (signed_Decides x y).0) id ends there)))) in
    omega (arith, simp (length-append, length-map) at fewer)
