-- Workers, begun and ended one after the other.
use Rattle.std.proofs.Common.{◌≡◌, ℕ, ◌<◌, List, [], ◌∷◌, ◌++◌, length, map, take, remove, slice_index_or, All, refl, sym, ap, ap₂, subst, ◌∙◌, append_assoc, append-nil, arith}
use lib.Seq.{take-append_seam}
use Rattle.std.proofs.lemmas.List.{length-map}
use Rattle.std.proofs.lemmas.List.Elements.{All-push, All-head, All-tail}
use Rattle.pl_wire.specs.Answering.{Calls}
use Rattle.pl_conn.specs.Serving.{Reaches, Returned}
use Rattle.pl_conn.specs.Workers.{Begun, Ended}
use Rattle.pl_conn.proofs.Talking.{map_more}

-- a list whose first was taken
pub split_first : {X : Type 0} (hs rest : List X) (h : X) → 0 < length hs → h ≡ slice_index_or hs 0 h → rest ≡ remove hs 0 → hs ≡ h ∷ rest
split_first [] rest h some is others = absurd (omega (arith, some))
split_first (y ∷ ys) rest h some is others = ap₂ (λ (a : _) (l : List _). a ∷ l) (sym is) (sym others)

returned_more : {P : Type 0} (calls : Calls P) (ss ps : List P) (s p : P) → Returned calls ss ps → Reaches calls s p → Returned calls (ss ++ s ∷ []) (ps ++ p ∷ [])
returned_more calls [] [] s p all one = (one, tt)
returned_more calls [] (y ∷ ys) s p all one = absurd all
returned_more calls (x ∷ xs) [] s p all one = absurd all
returned_more calls (x ∷ xs) (y ∷ ys) s p all one = (all.0, returned_more calls xs ys s p all.1 one)

module _ {H G P : Type 0} (start : H → P) (gate_of : H → G) (calls : G → Calls P) (owns : G → P → Type 0) (gate : G) (all : List P) where
  -- a worker is begun with the first pass that is left
  pub begins : (hs : List H) (left rest : List P) (h : H) (pass : P) → Begun hs start gate_of owns gate all left → left ≡ pass ∷ rest
      → gate_of h ≡ gate → start h ≡ pass → Begun (hs ++ h ∷ []) start gate_of owns gate all rest
  begins hs left rest h pass b first of is = record {
    starts = ap (λ (l : List P). l ++ rest) (map_more start hs h) ∙ append_assoc (map start hs) (start h ∷ []) rest
        ∙ ap (λ (p : P). map start hs ++ p ∷ rest) is ∙ ap (λ (l : List P). map start hs ++ l) (sym first) ∙ b.starts;
    gates = All-push (λ k. gate_of k ≡ gate) hs h b.gates of;
    own = All-tail (owns gate) pass rest (subst (All (owns gate)) first b.own);
  }

  -- those that are begun have the first passes
  pub begun_first : (hs : List H) (left : List P) → Begun hs start gate_of owns gate all left → map start hs ≡ take (length hs) all
  begun_first hs left b = sym (take-append_seam (map start hs) left) ∙ ap (λ (n : ℕ). take n (map start hs ++ left)) (length-map hs start) ∙ ap (take (length hs)) b.starts

  -- the first worker that is not ended ends
  pub ends : (hs rest : List H) (ended : List P) (h : H) (pass : P) → Ended hs start gate_of calls owns gate all ended → hs ≡ h ∷ rest
      → Reaches (calls gate) (start h) pass → owns gate pass → Ended rest start gate_of calls owns gate all (ended ++ pass ∷ [])
  ends hs rest ended h pass e first reaches own = record {
    joined = e.joined ++ start h ∷ [];
    returned = returned_more (calls gate) e.joined ended (start h) pass e.returned reaches;
    others = append_assoc e.joined (start h ∷ []) (map start rest) ∙ ap (λ (l : List H). e.joined ++ map start l) (sym first) ∙ e.others;
    gates = All-tail (λ k. gate_of k ≡ gate) h rest (subst (All (λ k. gate_of k ≡ gate)) first e.gates);
    own = All-push (owns gate) ended pass e.own own;
  }

  pub ends_first : (hs rest : List H) (ended : List P) (h : H) (pass : P) → Ended hs start gate_of calls owns gate all ended → 0 < length hs → h ≡ slice_index_or hs 0 h
      → rest ≡ remove hs 0 → Reaches (calls (gate_of h)) (start h) pass × owns (gate_of h) pass → Ended rest start gate_of calls owns gate all (ended ++ pass ∷ [])
  ends_first hs rest ended h pass e some is others kept =
      let first = split_first hs rest h some is others in
      let of : gate_of h ≡ gate = All-head (λ k. gate_of k ≡ gate) h rest (subst (All (λ k. gate_of k ≡ gate)) first e.gates) in
      ends hs rest ended h pass e first (subst (λ (x : G). Reaches (calls x) (start h) pass) of kept.0) (subst (λ (x : G). owns x pass) of kept.1)

  -- all are ended
  pub ended_all : (hs : List H) (ended : List P) → Ended hs start gate_of calls owns gate all ended → hs ≡ [] → Returned (calls gate) all ended
  ended_all hs ended e none = subst (λ (l : List P). Returned (calls gate) l ended)
      (sym (append-nil e.joined) ∙ ap (λ (l : List H). e.joined ++ map start l) (sym none) ∙ e.others) e.returned
