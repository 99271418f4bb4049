-- Versions in frames, when one frame is written, and when one more is taken.
use Rattle.std.proofs.Common.{◌≡◌, ◌≢◌, ℕ, zero, suc, ◌+◌, ◌<◌, ◌≤◌, Bool, true, false, cond, List, [], ◌∷◌, ◌++◌, length, map, replicate, get_or, set, Option, Some, None, unwrap_or, IsSome, IfSome, refl, sym, ap, subst, ◌∙◌, inl, inr, arith, length-set, length-append, get_or-set_other, get_or-set_same}
use mathlib.Core.Bool.{false≢true}
use Rattle.std.proofs.lemmas.Bool.{cases_eq, cases_lt}
use Rattle.std.proofs.lemmas.List.{get_or_append_left, get_or_default, get_or_push, length-map, map-set, map-append, set-get_or, same_lists}
use Rattle.std.specs.Ordering.{nat_cmp, eq_by_cmp, is_eq}
use Rattle.std.specs.declared.cmp.Ordering.{Ordering}
use Rattle.std.specs.declared.cmp.Ordering.TheVariants.{Less, Equal, Greater}
use Rattle.std.proofs.lemmas.Cmp.{nat_cmp_total, eq_by_cmp_equiv}
use Rattle.std.specs.FinMap as maps
use Rattle.pl_arena.specs.Arena as frames
use Rattle.pl_arena.specs.Arena.{Arena, IsOut, frame_bytes, with_frame}
use Rattle.pl_block.specs.Block.{Content}
use Rattle.pl_pages.specs.Page.{empty_page, after_block}
use Rattle.pl_pages.specs.State.{Version, IsVersion, AreVersions}
use Rattle.pl_pages.specs.Kept.{AreKept, VersionsState, frame_ids, StayInPlace, StayTrue, with_block, versions_in, version_in, version_at}
use Rattle.pl_pages.specs.declared.versions.Kept.{Kept}

-- ---- an arena of which one frame was written

equal_by : (q k : ℕ) (r : Ordering) → nat_cmp q k ≡ r → is_eq r ≡ true → q ≡ k
equal_by q k Less e is = absurd (false≢true is)
equal_by q k Equal e is = maps.nat_cmp-IsAntisymmetric q k e
equal_by q k Greater e is = absurd (false≢true is)

pub other_number : (q k : ℕ) → q ≢ k → eq_by_cmp nat_cmp q k ≡ false
other_number q k differs = by_case (eq_by_cmp nat_cmp q k) refl
  where
    by_case : (b : Bool) → eq_by_cmp nat_cmp q k ≡ b → b ≡ false
    by_case false e = refl
    by_case true e = absurd (differs (equal_by q k (nat_cmp q k) refl e))

module _ (a : Arena) (id : ℕ) (w : List ℕ) where
  pub frame_here : frame_bytes (with_frame a id w) id ≡ Some w
  frame_here = maps.get-insert nat_cmp_total a.out id w id ∙ ap (λ t. cond t (Some w) (frame_bytes a id)) ((eq_by_cmp_equiv nat_cmp_total).refl id)

  pub frame_other : (q : ℕ) → q ≢ id → frame_bytes (with_frame a id w) q ≡ frame_bytes a q
  frame_other q n = maps.get-insert nat_cmp_total a.out id w q ∙ ap (λ t. cond t (Some w) (frame_bytes a q)) (other_number q id n)

  put_out : (q : ℕ) → IsOut a q → IsOut (with_frame a id w) q
  put_out q out =
      elim (cases_eq q id) [
        | inl e ↦ subst IsSome (sym (ap (frame_bytes (with_frame a id w)) e ∙ frame_here)) refl
        | inr n ↦ subst IsSome (sym (frame_other q n)) out
      ]

  out_before : (q : ℕ) → q ≢ id → IsOut (with_frame a id w) q → IsOut a q
  out_before q n out = subst IsSome (frame_other q n) out

get_or_map : {X Y : Type 0} (f : X → Y) (xs : List X) (i : ℕ) (d : X) → get_or (map f xs) i (f d) ≡ f (get_or xs i d)
get_or_map f [] i d = refl
get_or_map f (x ∷ xs) zero d = refl
get_or_map f (x ∷ xs) (suc i) d = get_or_map f xs i d

-- what is at a place of a list of which one was replaced
at_set_place : {X : Type 0} (xs : List X) (i k : ℕ) (x d : X) → k ≡ i → k < length xs → get_or (set xs i x) k d ≡ x
at_set_place xs i k x d e within = ap (λ j. get_or (set xs i x) j d) e ∙ get_or-set_same xs i x d (omega (arith, e, within))

-- ---- lists of versions

module _ (log : List Content) (vs : List Version) (v : Version) (is : IsVersion log v) (all : AreVersions vs log) where
  -- one was replaced
  pub replaced_true : (i : ℕ) → AreVersions (set vs i v) log
  replaced_true i k d within =
      let within_old : k < length vs = omega (arith, within, length-set vs i v) in
      elim (cases_eq k i) [
        | inl e ↦ subst (IsVersion log) (sym (at_set_place vs i k v d e within_old)) is
        | inr n ↦ subst (IsVersion log) (sym (get_or-set_other vs i k v d n)) (all k d within_old)
      ]

  -- one was added
  pub added_true : AreVersions (vs ++ v ∷ []) log
  added_true k d within =
      elim (cases_lt k (length vs)) [
        | inl lt ↦ subst (IsVersion log) (sym (get_or_append_left vs (v ∷ []) d k lt)) (all k d lt)
        | inr ge ↦ subst (IsVersion log) (sym (get_or_push vs v d k (omega (arith, ge, within, length-append vs (v ∷ []))))) is
      ]

-- ---- versions in frames

module _ (a : Arena) (ks : List Kept) (oldest : ℕ) (kept : AreKept a (frame_ids ks) oldest) where
  frames_len : length (frame_ids ks) ≡ length ks
  frames_len = length-map ks (λ k. k.frame)

  versions_len : (b : Arena) (ls : List Kept) → length (versions_in b ls) ≡ length ls
  versions_len b ls = length-map ls (version_in b)

  frame_at : (j : ℕ) (d : Kept) → j < length ks → get_or (frame_ids ks) j 0 ≡ (get_or ks j d).frame
  frame_at j d within = get_or_default (frame_ids ks) j 0 d.frame (omega (arith, frames_len, within)) ∙ get_or_map (λ k. k.frame) ks j d

  -- a version that was read
  module _ (i : ℕ) (k : Kept) (read : k ≡ get_or ks i k) (within : i < length ks) where
    frame_is : get_or (frame_ids ks) i 0 ≡ k.frame
    frame_is = frame_at i k within ∙ ap (λ x. x.frame) (sym read)

    pub out_at : IsOut a k.frame
    out_at = subst (IsOut a) frame_is (kept.out i (omega (arith, frames_len, within)))

    pub version_is : version_at (versions_in a ks) i ≡ version_in a k
    version_is =
        get_or_default (versions_in a ks) i _ (version_in a k) (omega (arith, versions_len a ks, within))
        ∙ get_or_map (version_in a) ks i k ∙ ap (version_in a) (sym read)

    -- its frame is written, and it may get another name
    module _ (to : Kept) (w : List ℕ) (same : to.frame ≡ k.frame) where
      same_frames : frame_ids (set ks i to) ≡ frame_ids ks
      same_frames = map-set (λ x. x.frame) ks i to ∙ ap (set (frame_ids ks) i) (same ∙ sym frame_is) ∙ set-get_or (frame_ids ks) i 0

      out_still : (q : ℕ) → IsOut (with_frame a k.frame w) q → IsOut a q
      out_still q out =
          elim (cases_eq q k.frame) [
            | inl e ↦ subst (IsOut a) (sym e) out_at
            | inr n ↦ out_before a k.frame w q n out
          ]

      kept_then : AreKept (with_frame a k.frame w) (frame_ids ks) oldest
      kept_then = record {
        some = kept.some;
        out = λ j within. put_out a k.frame w _ (kept.out j within);
        apart = kept.apart;
        each = λ id out. kept.each id (out_still id out);
        turn = kept.turn;
      }

      pub written_kept : AreKept (with_frame a k.frame w) (frame_ids (set ks i to)) oldest
      written_kept = subst (λ fs. AreKept (with_frame a k.frame w) fs oldest) (sym same_frames) kept_then

      abbrev new_version : Version
      new_version = record { page = to.page; lsn = to.lsn; bytes = w }

      here : version_in (with_frame a k.frame w) to ≡ new_version
      here =
          ap (λ o. record { page = to.page; lsn = to.lsn; bytes = unwrap_or o [] }) (ap (frame_bytes (with_frame a k.frame w)) same ∙ frame_here a k.frame w)

      elsewhere : (j : ℕ) → j < length ks → j ≢ i → version_in (with_frame a k.frame w) (get_or ks j k) ≡ version_in a (get_or ks j k)
      elsewhere j near n =
          let x = get_or ks j k in
          ap (λ o. record { page = x.page; lsn = x.lsn; bytes = unwrap_or o [] })
          (frame_other a k.frame w x.frame (λ e. n (kept.apart j i (omega (arith, frames_len, near)) (omega (arith, frames_len, within)) (frame_at j k near ∙ e ∙ sym frame_is))))

      at_each : (j : ℕ) (d : Version) → j < length ks → get_or (versions_in (with_frame a k.frame w) (set ks i to)) j d ≡ get_or (set (versions_in a ks) i new_version) j d
      at_each j d near =
          let b = with_frame a k.frame w in
          let long : j < length (versions_in b (set ks i to)) = omega (arith, versions_len b (set ks i to), length-set ks i to, near) in
          let short : j < length (versions_in a ks) = omega (arith, versions_len a ks, near) in
          get_or_default (versions_in b (set ks i to)) j d (version_in b k) long ∙ get_or_map (version_in b) (set ks i to) j k
          ∙ elim (cases_eq j i) [
            | inl e ↦ ap (version_in b) (at_set_place ks i j to k e near) ∙ here ∙ sym (at_set_place (versions_in a ks) i j new_version d e short)
            | inr n ↦ ap (version_in b) (get_or-set_other ks i j to k n) ∙ elsewhere j near n
                ∙ sym (get_or_map (version_in a) ks j k) ∙ get_or_default (versions_in a ks) j (version_in a k) d short
                ∙ sym (get_or-set_other (versions_in a ks) i j new_version d n)
          ]

      pub written_is : versions_in (with_frame a k.frame w) (set ks i to) ≡ set (versions_in a ks) i new_version
      written_is =
          let b = with_frame a k.frame w in
          same_lists (versions_in b (set ks i to)) (set (versions_in a ks) i new_version)
          (versions_len b (set ks i to) ∙ length-set ks i to ∙ sym (versions_len a ks) ∙ sym (length-set (versions_in a ks) i new_version))
          (λ j d near. at_each j d (omega (arith, near, versions_len b (set ks i to), length-set ks i to)))

  -- a frame that was not out gets a version
  module _ (to : Kept) (w : List ℕ) (fresh : frame_bytes a to.frame ≡ None) where
    not_fresh : (j : ℕ) → j < length ks → (get_or ks j to).frame ≢ to.frame
    not_fresh j near e =
        let out : IsSome (frame_bytes a (get_or ks j to).frame) = subst (IsOut a) (frame_at j to near) (kept.out j (omega (arith, frames_len, near))) in
        absurd (false≢true (subst IsSome (ap (frame_bytes a) e ∙ fresh) out))

    stays : (b : Arena) (ls : List Kept) → b ≡ with_frame a to.frame w → ((j : ℕ) → j < length ls → (get_or ls j to).frame ≢ to.frame) → versions_in b ls ≡ versions_in a ls
    stays b ls is apart =
        same_lists (versions_in b ls) (versions_in a ls) (versions_len b ls ∙ sym (versions_len a ls)) (λ j d near.
        let close : j < length ls = omega (arith, near, versions_len b ls) in
        let x = get_or ls j to in
        get_or_default (versions_in b ls) j d (version_in b to) near ∙ get_or_map (version_in b) ls j to
        ∙ ap (λ o. record { page = x.page; lsn = x.lsn; bytes = unwrap_or o [] }) (ap (λ c. frame_bytes c x.frame) is ∙ frame_other a to.frame w x.frame (apart j close))
        ∙ sym (get_or_map (version_in a) ls j to) ∙ get_or_default (versions_in a ls) j (version_in a to) d (omega (arith, versions_len a ls, close)))

    pub added_is : versions_in (with_frame a to.frame w) (ks ++ to ∷ []) ≡ versions_in a ks ++ record { page = to.page; lsn = to.lsn; bytes = w } ∷ []
    added_is =
        let b = with_frame a to.frame w in
        let last : Version = record { page = to.page; lsn = to.lsn; bytes = w } in
        map-append (version_in b) ks (to ∷ [])
        ∙ ap (λ vs. vs ++ version_in b to ∷ []) (stays b ks refl not_fresh)
        ∙ ap (λ (o : Option (List ℕ)). let v : Version = record { page = to.page; lsn = to.lsn; bytes = unwrap_or o [] } in versions_in a ks ++ v ∷ []) (frame_here a to.frame w)

    more_frames : frame_ids (ks ++ to ∷ []) ≡ frame_ids ks ++ to.frame ∷ []
    more_frames = map-append (λ k. k.frame) ks (to ∷ [])

    abbrev fs : List ℕ
    fs = frame_ids ks

    old_at : (j : ℕ) → j < length fs → get_or (fs ++ to.frame ∷ []) j 0 ≡ get_or fs j 0
    old_at j near = get_or_append_left fs (to.frame ∷ []) 0 j near

    new_at : (j : ℕ) → length fs ≡ j → get_or (fs ++ to.frame ∷ []) j 0 ≡ to.frame
    new_at j e = get_or_push fs to.frame 0 j e

    old_differs : (j : ℕ) → j < length fs → get_or fs j 0 ≢ to.frame
    old_differs j near e = absurd (false≢true (subst IsSome (ap (frame_bytes a) e ∙ fresh) (kept.out j near)))

    longer : length (fs ++ to.frame ∷ []) ≡ length fs + 1
    longer = length-append fs (to.frame ∷ [])

    apart_then : (i j : ℕ) → i < length (fs ++ to.frame ∷ []) → j < length (fs ++ to.frame ∷ []) → get_or (fs ++ to.frame ∷ []) i 0 ≡ get_or (fs ++ to.frame ∷ []) j 0 → i ≡ j
    apart_then i j near close e =
        elim (cases_lt i (length fs)) [
          | inl x ↦ elim (cases_lt j (length fs)) [
            | inl y ↦ kept.apart i j x y (sym (old_at i x) ∙ e ∙ old_at j y)
            | inr y ↦ absurd (old_differs i x (sym (old_at i x) ∙ e ∙ new_at j (omega (arith, longer, close, y))))
          ]
          | inr x ↦ elim (cases_lt j (length fs)) [
            | inl y ↦ absurd (old_differs j y (sym (old_at j y) ∙ sym e ∙ new_at i (omega (arith, longer, near, x))))
            | inr y ↦ omega (arith, longer, near, close, x, y)
          ]
        ]

    each_then : (id : ℕ) → IsOut (with_frame a to.frame w) id → (i : ℕ) × ((i < length (fs ++ to.frame ∷ [])) × (get_or (fs ++ to.frame ∷ []) i 0 ≡ id))
    each_then id out =
        elim (cases_eq id to.frame) [
          | inl e ↦ (length fs, (omega (arith, longer), new_at (length fs) refl ∙ sym e))
          | inr n ↦
              let had = kept.each id (out_before a to.frame w id n out) in
              (had.0, (omega (arith, longer, had.1.0), old_at had.0 had.1.0 ∙ had.1.1))
        ]

    out_then : (j : ℕ) → j < length (fs ++ to.frame ∷ []) → IsOut (with_frame a to.frame w) (get_or (fs ++ to.frame ∷ []) j 0)
    out_then j near =
        elim (cases_lt j (length fs)) [
          | inl lt ↦ subst (IsOut (with_frame a to.frame w)) (sym (old_at j lt)) (put_out a to.frame w _ (kept.out j lt))
          | inr ge ↦ subst (IsOut (with_frame a to.frame w)) (sym (new_at j (omega (arith, longer, near, ge)))) (subst IsSome (sym (frame_here a to.frame w)) refl)
        ]

    pub added_kept : AreKept (with_frame a to.frame w) (frame_ids (ks ++ to ∷ [])) oldest
    added_kept = subst (λ (l : List ℕ). AreKept (with_frame a to.frame w) l oldest) (sym more_frames) (record {
      some = kept.some;
      out = out_then;
      apart = apart_then;
      each = each_then;
      turn = λ some. omega (arith, longer, kept.turn some);
    })

-- ---- the same of what is seen of versions

module _ (a : Arena) (ks : List Kept) (oldest : ℕ) (kept : AreKept a (frame_ids ks) oldest) (seen : VersionsState) (view : ◌≡◌ {A = VersionsState} (record { versions = versions_in a ks; chunks = a.max_chunks }) seen) where
  pub seen_len : length seen.versions ≡ length ks
  seen_len = ap (λ s. length s.versions) (sym view) ∙ length-map ks (version_in a)

  module _ (i : ℕ) (within : i < length seen.versions) (k : Kept) (read : k ≡ get_or ks i k) where
    near : i < length ks
    near = omega (arith, seen_len, within)

    pub out_seen : IsOut a k.frame
    out_seen = out_at a ks oldest kept i k read near

    pub version_seen : version_at seen.versions i ≡ version_in a k
    version_seen = ap (λ s. version_at s.versions i) (sym view) ∙ version_is a ks oldest kept i k read near

    module _ (to : Kept) (w : List ℕ) (same : to.frame ≡ k.frame) where
      pub kept_seen : AreKept (with_frame a k.frame w) (frame_ids (set ks i to)) oldest
      kept_seen = written_kept a ks oldest kept i k read near to w same

      pub written_seen : versions_in (with_frame a k.frame w) (set ks i to) ≡ set seen.versions i (record { page = to.page; lsn = to.lsn; bytes = w })
      written_seen =
          let v : Version = record { page = to.page; lsn = to.lsn; bytes = w } in
          written_is a ks oldest kept i k read near to w same ∙ ap (λ s. set s.versions i v) view

-- ---- a version at LSN 0, in a frame that was just taken

frame_zeros : frames.zeros ≡ replicate 8192 0
unfolding frames.zeros
frame_zeros = refl

page_empty : empty_page ≡ replicate 8192 0
unfolding empty_page
page_empty = refl

-- what a frame is taken for
abbrev pub taken_with : ℕ → Kept
taken_with id = record { page = 0; lsn = 0; frame = id }

pub cleared : (old : List ℕ) → length old ≡ 8192 → replicate (length old) 0 ≡ empty_page
cleared old len = ap (λ (n : ℕ). replicate n 0) len ∙ sym page_empty

pub blank_true : (log : List Content) (page : ℕ) (bytes : List ℕ) → bytes ≡ empty_page → IsVersion log (record { page = page; lsn = 0; bytes = bytes })
blank_true log page bytes is = record { within = omega arith; bytes = is }

module _ (a : Arena) (ks : List Kept) (oldest : ℕ) (kept : AreKept a (frame_ids ks) oldest) (seen : VersionsState) (view : ◌≡◌ {A = VersionsState} (record { versions = versions_in a ks; chunks = a.max_chunks }) seen) (to : Kept) (fresh : frame_bytes a to.frame ≡ None) (start : to.lsn ≡ 0) where
  module _ (b : Arena) (ls : List Kept) (taken : b ≡ with_frame a to.frame frames.zeros) (pushed : ls ≡ ks ++ to ∷ []) where
    abbrev first_version : Version
    first_version = record { page = to.page; lsn = to.lsn; bytes = frames.zeros }

    new_true : (log : List Content) → IsVersion log first_version
    new_true log = subst (λ (n : ℕ). IsVersion log (record { page = to.page; lsn = n; bytes = frames.zeros })) (sym start) (blank_true log to.page frames.zeros (frame_zeros ∙ sym page_empty))

    pub taken_kept : AreKept b (frame_ids ls) oldest
    taken_kept =
        subst (λ (c : Arena). AreKept c (frame_ids ls) oldest) (sym taken)
        (subst (λ (l : List Kept). AreKept (with_frame a to.frame frames.zeros) (frame_ids l) oldest) (sym pushed) (added_kept a ks oldest kept to frames.zeros fresh))

    pub taken_is : versions_in b ls ≡ seen.versions ++ first_version ∷ []
    taken_is =
        ap (λ c. versions_in c ls) taken ∙ ap (versions_in (with_frame a to.frame frames.zeros)) pushed
        ∙ added_is a ks oldest kept to frames.zeros fresh
        ∙ ap (λ s. s.versions ++ first_version ∷ []) view

    pub taken_true : StayTrue seen.versions (versions_in b ls)
    taken_true log all = subst (λ (vs : List Version). AreVersions vs log) (sym taken_is) (added_true log seen.versions first_version (new_true log) all)

    pub taken_stay : StayInPlace seen.versions (versions_in b ls)
    taken_stay = record {
      len = omega (arith, ap length taken_is, length-append seen.versions (first_version ∷ []));
      same = λ place within. ap (λ vs. version_at vs place) taken_is ∙ get_or_append_left seen.versions (first_version ∷ []) _ place within;
    }

-- ---- no frame is out

pub none_kept : (a : Arena) (ks : List Kept) (chunks : ℕ) → a.max_chunks ≡ chunks → a.out ≡ maps.empty → ks ≡ [] → 1 ≤ chunks → AreKept a (frame_ids ks) 0
none_kept a ks chunks max none no_versions some =
    let len : length (frame_ids ks) ≡ 0 = ap (λ l. length (frame_ids l)) no_versions in
    record {
      some = omega (arith, some, max);
      out = λ i within. absurd (omega (arith, within, len));
      apart = λ i j within. absurd (omega (arith, within, len));
      each = λ id out. absurd (false≢true (subst IsSome (ap (λ m. maps.get m id) none ∙ maps.get-empty nat_cmp id) out));
      turn = λ some. absurd (omega (arith, some));
    }

-- a version with the changes of a block
abbrev pub block_made : Version → Content → Version
block_made v block = record { page = v.page; lsn = block.lsn; bytes = after_block v.page v.bytes block }

-- ---- a version that was changed by a block, and one that was copied

pub redone : (vs : List Version) (i : ℕ) (block : Content) (a : Arena) (k : Kept) (old new : List ℕ) (lsn : ℕ) → version_at vs i ≡ version_in a k → frame_bytes a k.frame ≡ Some old → new ≡ after_block k.page old block → lsn ≡ block.lsn → set vs i (record { page = k.page; lsn = lsn; bytes = new }) ≡ with_block vs i block
redone vs i block a k old new lsn is had made numbered =
    let bytes : new ≡ after_block k.page (version_at vs i).bytes block = made ∙ ap (λ o. after_block k.page (unwrap_or o []) block) (sym had) ∙ ap (λ v. after_block k.page v.bytes block) (sym is) in
    ap (λ n. set vs i (record { page = k.page; lsn = n; bytes = new })) numbered
    ∙ ap (λ b. set vs i (record { page = k.page; lsn = block.lsn; bytes = b })) bytes
    ∙ ap (λ p. set vs i (record { page = p; lsn = block.lsn; bytes = after_block p (version_at vs i).bytes block })) (ap (λ v. v.page) (sym is))

pub copied : (vs : List Version) (i j : ℕ) (a : Arena) (k : Kept) (bytes : List ℕ) → version_at vs j ≡ version_in a k → frame_bytes a k.frame ≡ Some bytes → set vs i (record { page = k.page; lsn = k.lsn; bytes = bytes }) ≡ set vs i (version_at vs j)
copied vs i j a k bytes is had =
    ap (λ o. set vs i (record { page = k.page; lsn = k.lsn; bytes = unwrap_or o [] })) (sym had) ∙ ap (set vs i) (sym is)

-- what `IfSome` says of a value that is there
pub at_some : {X : Type 0} (o : Option X) (x : X) (P : X → Type 0) → o ≡ Some x → IfSome o P → P x
at_some o x P is if_some = subst (λ p. IfSome p P) is if_some

pub some_is : {X : Type 0} (o : Option X) (d : X) → IsSome o → o ≡ Some (unwrap_or o d)
some_is None d is = absurd (false≢true is)
some_is (Some x) d is = refl

-- ---- the version at a place, with one block more

pub with_block_stands : (vs : List Version) (place : ℕ) (block : Content) → place < length vs → version_at (with_block vs place block) place ≡ block_made (version_at vs place) block
with_block_stands vs place block within = at_set_place vs place place _ _ refl within
