-- The rounds of a page server at one database more, and the last of a list.
use Rattle.std.proofs.Common.{◌≡◌, ℕ, ◌+◌, List, [], ◌∷◌, ◌++◌, length, refl, ap, subst, ◌∙◌, arith, length-append}
use Rattle.pl_wire.specs.Answering.{Calls}
use Rattle.pl_conn.specs.Materialising.{Works, advance_at}
use Rattle.pl_conn.specs.declared.page_server.PageServer.{PageServer}
use Rattle.pl_conn.specs.declared.page_server.Worked.{Worked}
use Rattle.pl_program.specs.Pager.{Pages, PagesEach}

-- the rounds at the database of this number
abbrev pub WorksAt : {P : Type 0} → Calls P → PageServer → ℕ → P → Worked → P → Type 0
WorksAt calls server database before worked after =
    Works calls (advance_at server.principal server.token database server.partition) server.rounds before worked after

pages_each_more : {P : Type 0} (calls : Calls P) (server : PageServer) (database n : ℕ) (before now after : P) (works : List Worked) (worked : Worked)
    → PagesEach calls server database before works now → WorksAt calls server n now worked after → database + length works ≡ n
    → PagesEach calls server database before (works ++ worked ∷ []) after
pages_each_more calls server database n before now after [] worked each more at =
    let same : n ≡ database = omega (arith, at) in
    (after, subst (λ p. WorksAt calls server database p worked after) each (subst (λ d. WorksAt calls server d now worked after) same more), refl)
pages_each_more calls server database n before now after (w ∷ ws) worked (next, first, rest) more at =
    (next, first, pages_each_more calls server (database + 1) n next now after ws worked rest more (omega (arith, at)))

-- no database yet
pub pages_start : {P : Type 0} (calls : Calls P) (server : PageServer) (before : P) → Pages calls server 0 before before
pages_start calls server before = record { works = []; count = refl; each = refl }

-- one database more
pub pages_more : {P : Type 0} (calls : Calls P) (server : PageServer) (n : ℕ) (before now after : P) (worked : Worked)
    → Pages calls server n before now → WorksAt calls server n now worked after → Pages calls server (n + 1) before after
pages_more calls server n before now after worked pages more = record {
  works = pages.works ++ worked ∷ [];
  count = length-append pages.works (worked ∷ []) ∙ ap (λ k. k + 1) pages.count;
  each = pages_each_more calls server 0 n before now after pages.works worked pages.each more (omega (arith, pages.count));
}

-- two lists with a last item each are the same
pub record SameEnds {A : Type 0} (xs ys : List A) (x y : A) : Type 0 where
  pub fronts : xs ≡ ys
  pub lasts : x ≡ y

pub ends_of : {A : Type 0} (xs ys : List A) (x y : A) → xs ++ x ∷ [] ≡ ys ++ y ∷ [] → SameEnds xs ys x y
ends_of [] [] x y same = record { fronts = refl; lasts = cc }
ends_of [] (b ∷ ys) x y same = absurd (omega (arith, ap length same, length-append ys (y ∷ [])))
ends_of (a ∷ xs) [] x y same = absurd (omega (arith, ap length same, length-append xs (x ∷ [])))
ends_of (a ∷ xs) (b ∷ ys) x y same =
    let rest : xs ++ x ∷ [] ≡ ys ++ y ∷ [] = cc in
    let first : a ≡ b = cc in
    let ends = ends_of xs ys x y rest in
    let fronts = ends.fronts in
    record { fronts = cc; lasts = ends.lasts }
