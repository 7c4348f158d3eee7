-- What a face keeps, while live rows come and go and it is told so.
use Rattle.std.proofs.Common.{◌≡◌, Bool, true, false, not, if◌then◌else◌, ◌&&◌, ◌||◌, List, ◌∷◌, refl, sym, ap, ◌∙◌, subst, ⊎_elim}
use Rattle.std.proofs.lemmas.Bool.{and_parts, and_from, or_left, or_right, or_cases, not_from_false, not-true}
use Rattle.std.specs.Cmp.{IsTotalOrder}
use Rattle.std.specs.List.{list_any}
use Rattle.std.specs.declared.cmp.Ordering.{Ordering}
use Rattle.std.specs.declared.cmp.Ordering.TheVariants.{Equal}
use Rattle.zt_region.specs.declared.region.Region.{Region}
use Rattle.zt_region.specs.Admission.{admits}
use Rattle.zt_model.specs.Lists.{is_among, same}
use Rattle.zt_model.specs.Rows.{ById, Face, Rows}
use Rattle.zt_model.specs.Says.{is_routed, is_told}
use Rattle.zt_model.specs.Seen.{sees}
use Rattle.zt_model.specs.Visible.{is_admitted, is_visible, keeps, live_rows, shows}
use Rattle.zt_model.specs.Wants.{covers, seeks, wants}
use Rattle.zt_laws.proofs.Forgetting.{forgotten, names-without_key}
use Rattle.zt_laws.proofs.Keys.{same_is, same_itself}
use Rattle.zt_laws.proofs.Lists.{any_alike, any_weaker, by_test, never, of_cond}
use Rattle.zt_laws.proofs.Seen.{hears_is, owed_is, sees_is}
use Rattle.zt_laws.proofs.Telling.{covers_alike, covers_seeks, seeks_alike, told_anew}
use Rattle.zt_laws.proofs.Told.{names-append}
use Rattle.zt_laws.proofs.Visible.{admitted_visible}
use Rattle.zt_theorem_soundness.specs.Sound.{KeepsBut, any_of, nothing_left, shown_from, told_from}

module _ {K : Type 0} where
  -- ---- gateways that show the same, more, or less

  pub record ShowSame (g h : Rows K) : Type 0 where
    pub live : live_rows h ≡ live_rows g
    pub refused : h.refused ≡ g.refused

  -- one row more
  pub record ShowsMore (source : Region) (e : K) (g h : Rows K) : Type 0 where
    pub rows : (test : Region × K → Bool) → list_any test (live_rows h) ≡ (list_any test (live_rows g) || test (source, e))
    pub refused : h.refused ≡ g.refused

  -- no other rows, and all but those of some expressions in one region
  pub record ShowsLess (source : Region) (es : List K) (g h : Rows K) : Type 0 where
    pub still : (test : Region × K → Bool) → list_any test (live_rows h) ≡ true → list_any test (live_rows g) ≡ true
    pub all_but : (test : Region × K → Bool) → list_any test (live_rows g) ≡ true → (list_any test (live_rows h) || list_any (λ e. test (source, e)) es) ≡ true
    pub refused : h.refused ≡ g.refused

  -- a face that keeps what it was told and what it holds
  pub record Stays (f k : Face K) : Type 0 where
    pub region : k.region ≡ f.region
    pub told : k.told ≡ f.told
    pub held : k.held ≡ f.held

  pub stays_itself : (f : Face K) → Stays f f
  stays_itself f = record { region = refl; told = refl; held = refl }

module _ {K : Type 0} (cmp : K → K → Ordering) where
  -- ---- what is visible, in the words by which promises read who sees it

  visible_by : (g : Rows K) (own : Region) (x : K) → is_visible cmp g own x ≡ list_any (λ row. same cmp x row.1 && sees own row.0) (live_rows g)
  unfolding is_visible
  visible_by g own x =
      any_alike (λ row. same cmp x row.1 && shows g.mode own row.0) (λ row. same cmp x row.1 && sees own row.0)
      (λ row. ap (λ b. same cmp x row.1 && b) (sym (sees_is g.mode own row.0))) (live_rows g)

  admitted_by : (g : Rows K) (own : Region) (x : K) → is_admitted cmp g own x ≡ list_any (λ row. same cmp x row.1 && (sees own row.0 && admits g.refused row.0 own)) (live_rows g)
  unfolding is_admitted
  admitted_by g own x =
      any_alike (λ row. same cmp x row.1 && (shows g.mode own row.0 && admits g.refused row.0 own)) (λ row. same cmp x row.1 && (sees own row.0 && admits g.refused row.0 own))
      (λ row. ap (λ b. same cmp x row.1 && (b && admits g.refused row.0 own)) (sym (sees_is g.mode own row.0))) (live_rows g)

  pub visible_same : (g h : Rows K) (own : Region) (x : K) → ShowSame g h → is_visible cmp h own x ≡ is_visible cmp g own x
  visible_same g h own x same_ = visible_by h own x ∙ ap (list_any (λ row. same cmp x row.1 && sees own row.0)) same_.live ∙ sym (visible_by g own x)

  pub admitted_same : (g h : Rows K) (own : Region) (x : K) → ShowSame g h → is_admitted cmp h own x ≡ is_admitted cmp g own x
  admitted_same g h own x same_ =
      admitted_by h own x
      ∙ ap (λ (pairs : List (Region × Region)). list_any (λ row. same cmp x row.1 && (sees own row.0 && admits pairs row.0 own)) (live_rows h)) same_.refused
      ∙ ap (list_any (λ row. same cmp x row.1 && (sees own row.0 && admits g.refused row.0 own))) same_.live
      ∙ sym (admitted_by g own x)

  pub visible_more : (source : Region) (e : K) (g h : Rows K) (own : Region) (x : K) → ShowsMore source e g h → is_visible cmp h own x ≡ (is_visible cmp g own x || shown_from cmp source e own x)
  visible_more source e g h own x more =
      visible_by h own x ∙ more.rows (λ row. same cmp x row.1 && sees own row.0) ∙ ap (λ b. b || shown_from cmp source e own x) (sym (visible_by g own x))

  pub admitted_more : (source : Region) (e : K) (g h : Rows K) (own : Region) (x : K) → ShowsMore source e g h → is_admitted cmp h own x ≡ (is_admitted cmp g own x || told_from cmp h source e own x)
  admitted_more source e g h own x more =
      admitted_by h own x
      ∙ more.rows (λ row. same cmp x row.1 && (sees own row.0 && admits h.refused row.0 own))
      ∙ ap (λ (pairs : List (Region × Region)). list_any (λ row. same cmp x row.1 && (sees own row.0 && admits pairs row.0 own)) (live_rows g) || told_from cmp h source e own x) more.refused
      ∙ ap (λ b. b || told_from cmp h source e own x) (sym (admitted_by g own x))

  pub visible_less : (source : Region) (es : List K) (g h : Rows K) (own : Region) (x : K) → ShowsLess source es g h → is_visible cmp g own x ≡ true → is_among cmp x es ≡ false → is_visible cmp h own x ≡ true
  visible_less source es g h own x less seen apart =
      visible_by h own x
      ∙ ⊎_elim (λ still. still)
      (λ gone. never (any_weaker (λ e. same cmp x e && sees own source) (same cmp x) (λ e both. (and_parts (same cmp x e) (sees own source) both).0) es gone) apart)
      (or_cases (list_any (λ row. same cmp x row.1 && sees own row.0) (live_rows h)) (list_any (λ e. same cmp x e && sees own source) es) (less.all_but (λ row. same cmp x row.1 && sees own row.0) (sym (visible_by g own x) ∙ seen)))

  pub admitted_less : (source : Region) (es : List K) (g h : Rows K) (own : Region) (x : K) → ShowsLess source es g h → is_admitted cmp h own x ≡ true → is_admitted cmp g own x ≡ true
  admitted_less source es g h own x less seen =
      admitted_by g own x
      ∙ less.still (λ row. same cmp x row.1 && (sees own row.0 && admits g.refused row.0 own))
      (subst (λ (pairs : List (Region × Region)). list_any (λ row. same cmp x row.1 && (sees own row.0 && admits pairs row.0 own)) (live_rows h) ≡ true) less.refused (sym (admitted_by h own x) ∙ seen))

  module _ (matching : K → K → Bool) where
    keeps_is : (f k : Face K) (x : K) → Stays f k → keeps cmp k x ≡ keeps cmp f x
    keeps_is f k x stays = ap (λ (rows : ById K). list_any (λ row. same cmp x row.1) rows) stays.told

    -- a face of either gateway, be their modes what they are
    seeks_same : (g h : Rows K) (f k : Face K) (x : K) → Stays f k → seeks matching h.mode k x ≡ seeks matching g.mode f x
    seeks_same g h f k x stays = seeks_alike matching h.mode k f x stays.region stays.held ∙ sym (hears_is matching h.mode f x) ∙ hears_is matching g.mode f x

    covers_same : (g h : Rows K) (f k : Face K) (x : K) → Stays f k → covers matching h.mode k x ≡ covers matching g.mode f x
    covers_same g h f k x stays = covers_alike matching h.mode k f x stays.region stays.held ∙ sym (owed_is matching h.mode f x) ∙ owed_is matching g.mode f x

    -- ---- the same is shown

    pub keeps_stays : (unseen untold : Region → K → Bool) (g h : Rows K) (f k : Face K) → ShowSame g h → Stays f k → KeepsBut cmp matching unseen untold g f → KeepsBut cmp matching unseen untold h k
    keeps_stays unseen untold g h f k same_ stays right =
        let visible_ = λ (x : K). ap (λ r. is_visible cmp h r x) stays.region ∙ visible_same g h f.region x same_ in
        let admitted_ = λ (x : K). ap (λ r. is_admitted cmp h r x) stays.region ∙ admitted_same g h f.region x same_ in
        record {
          kept_is_visible = λ x kept seen. visible_ x ∙ right.kept_is_visible x (sym (keeps_is f k x stays) ∙ kept) (ap (λ r. unseen r x) (sym stays.region) ∙ seen);
          kept_is_sought = λ x kept. seeks_same g h f k x stays ∙ right.kept_is_sought x (sym (keeps_is f k x stays) ∙ kept);
          admitted_is_kept = λ x admitted covered told. keeps_is f k x stays ∙ right.admitted_is_kept x (sym (admitted_ x) ∙ admitted) (sym (covers_same g h f k x stays) ∙ covered) (ap (λ r. untold r x) (sym stays.region) ∙ told);
        }

    -- ---- one row more is shown

    pub keeps_more : (source : Region) (e : K) (unseen : Region → K → Bool) (g h : Rows K) (f k : Face K) → ShowsMore source e g h → Stays f k
        → ((own : Region) (x : K) → unseen own x ≡ true → shown_from cmp source e own x ≡ true)
        → KeepsBut cmp matching unseen nothing_left g f → KeepsBut cmp matching nothing_left (told_from cmp h source e) h k
    keeps_more source e unseen g h f k more stays covered_by right = record {
      kept_is_visible = λ x kept _.
          let old = sym (keeps_is f k x stays) ∙ kept in
          ap (λ r. is_visible cmp h r x) stays.region
          ∙ visible_more source e g h f.region x more
          ∙ by_test (unseen f.region x)
          (λ here. or_right (is_visible cmp g f.region x) (shown_from cmp source e f.region x) (covered_by f.region x here))
          (λ here. or_left (is_visible cmp g f.region x) (shown_from cmp source e f.region x) (right.kept_is_visible x old here));
      kept_is_sought = λ x kept. seeks_same g h f k x stays ∙ right.kept_is_sought x (sym (keeps_is f k x stays) ∙ kept);
      admitted_is_kept = λ x admitted covered told.
          ⊎_elim (λ old. keeps_is f k x stays ∙ right.admitted_is_kept x old (sym (covers_same g h f k x stays) ∙ covered) refl)
          (λ new_. never (ap (λ r. told_from cmp h source e r x) stays.region ∙ new_) told)
          (or_cases (is_admitted cmp g f.region x) (told_from cmp h source e f.region x) (sym (admitted_more source e g h f.region x more) ∙ ap (λ r. is_admitted cmp h r x) (sym stays.region) ∙ admitted));
    }

    -- ---- rows are gone

    pub keeps_less : (source : Region) (es : List K) (g h : Rows K) (f k : Face K) → ShowsLess source es g h → Stays f k → KeepsBut cmp matching nothing_left nothing_left g f → KeepsBut cmp matching (any_of cmp es) nothing_left h k
    keeps_less source es g h f k less stays right = record {
      kept_is_visible = λ x kept seen.
          ap (λ r. is_visible cmp h r x) stays.region
          ∙ visible_less source es g h f.region x less (right.kept_is_visible x (sym (keeps_is f k x stays) ∙ kept) refl) seen;
      kept_is_sought = λ x kept. seeks_same g h f k x stays ∙ right.kept_is_sought x (sym (keeps_is f k x stays) ∙ kept);
      admitted_is_kept = λ x admitted covered told.
          keeps_is f k x stays
          ∙ right.admitted_is_kept x (admitted_less source es g h f.region x less (ap (λ r. is_admitted cmp h r x) (sym stays.region) ∙ admitted)) (sym (covers_same g h f k x stays) ∙ covered) refl;
    }

    module _ (total : IsTotalOrder cmp) (equal_is_same : (a b : K) → cmp a b ≡ Equal → a ≡ b) where
      -- ---- telling

      -- the rows of the source's region that have the expression are there
      abbrev pub IsShown : Region → K → Rows K → Type 0
      IsShown source e g = (own : Region) → sees own source ≡ true → is_visible cmp g own e ≡ true

      pub keeps_told : (source : Region) (e : K) (g : Rows K) (f : Face K) → IsShown source e g → is_routed g f ≡ false
          → KeepsBut cmp matching nothing_left (told_from cmp g source e) g f → KeepsBut cmp matching nothing_left nothing_left g (if is_told cmp matching g source e f then told_anew e f else f)
      unfolding seeks wants covers
      keeps_told source e g f shown plain right = of_cond (KeepsBut cmp matching nothing_left nothing_left g) (is_told cmp matching g source e f) (told_anew e f) f tells tells_not
        where
          tells : is_told cmp matching g source e f ≡ true → KeepsBut cmp matching nothing_left nothing_left g (told_anew e f)
          tells is =
              let whole = and_parts (not (is_routed g f)) (admits g.refused source f.region && shows g.mode f.region source && not (keeps cmp f e) && seeks matching g.mode f e) is in
              let sought = and_parts (admits g.refused source f.region && shows g.mode f.region source && not (keeps cmp f e)) (seeks matching g.mode f e) whole.1 in
              let new_ = and_parts (admits g.refused source f.region && shows g.mode f.region source) (not (keeps cmp f e)) sought.0 in
              let shows_ = (and_parts (admits g.refused source f.region) (shows g.mode f.region source) new_.0).1 in
              record {
                kept_is_visible = λ x kept _.
                    ⊎_elim (λ old. right.kept_is_visible x old refl) (λ own. ap (is_visible cmp g f.region) (same_is cmp total equal_is_same x e own) ∙ shown f.region (sees_is g.mode f.region source ∙ shows_))
                    (or_cases (keeps cmp f x) (same cmp x e) (sym (names-append cmp x f.told f.next e) ∙ kept));
                kept_is_sought = λ x kept.
                    ⊎_elim (λ old. right.kept_is_sought x old) (λ own. ap (seeks matching g.mode f) (same_is cmp total equal_is_same x e own) ∙ sought.1)
                    (or_cases (keeps cmp f x) (same cmp x e) (sym (names-append cmp x f.told f.next e) ∙ kept));
                admitted_is_kept = λ x admitted covered _.
                    names-append cmp x f.told f.next e
                    ∙ by_test (told_from cmp g source e f.region x)
                    (λ here. or_right (keeps cmp f x) (same cmp x e) (and_parts (same cmp x e) (sees f.region source && admits g.refused source f.region) here).0)
                    (λ here. or_left (keeps cmp f x) (same cmp x e) (right.admitted_is_kept x admitted covered here));
              }

          tells_not : is_told cmp matching g source e f ≡ false → KeepsBut cmp matching nothing_left nothing_left g f
          tells_not is = record {
            kept_is_visible = λ x kept _. right.kept_is_visible x kept refl;
            kept_is_sought = λ x kept. right.kept_is_sought x kept;
            admitted_is_kept = λ x admitted covered _.
                by_test (told_from cmp g source e f.region x)
                (λ here.
                let parts = and_parts (same cmp x e) (sees f.region source && admits g.refused source f.region) here in
                let both = and_parts (sees f.region source) (admits g.refused source f.region) parts.1 in
                let one : x ≡ e = same_is cmp total equal_is_same x e parts.0 in
                ap (keeps cmp f) one
                ∙ by_test (keeps cmp f e) (λ there. there)
                (λ gone. never
                (and_from (not (is_routed g f)) (admits g.refused source f.region && shows g.mode f.region source && not (keeps cmp f e) && seeks matching g.mode f e) (not_from_false (is_routed g f) plain)
                (and_from (admits g.refused source f.region && shows g.mode f.region source && not (keeps cmp f e)) (seeks matching g.mode f e)
                (and_from (admits g.refused source f.region && shows g.mode f.region source) (not (keeps cmp f e)) (and_from (admits g.refused source f.region) (shows g.mode f.region source) both.1 (sym (sees_is g.mode f.region source) ∙ both.0)) (not_from_false (keeps cmp f e) gone))
                (ap (seeks matching g.mode f) (sym one) ∙ covers_seeks matching g.mode f x covered))) is))
                (λ here. right.admitted_is_kept x admitted covered here);
          }

      -- ---- forgetting

      pub keeps_forgotten : (e : K) (es : List K) (g : Rows K) (f : Face K) → KeepsBut cmp matching (any_of cmp (e ∷ es)) nothing_left g f → KeepsBut cmp matching (any_of cmp es) nothing_left g (if is_visible cmp g f.region e then f else forgotten cmp e f)
      unfolding seeks wants covers
      keeps_forgotten e es g f right = of_cond (KeepsBut cmp matching (any_of cmp es) nothing_left g) (is_visible cmp g f.region e) f (forgotten cmp e f) seen gone
        where
          seen : is_visible cmp g f.region e ≡ true → KeepsBut cmp matching (any_of cmp es) nothing_left g f
          seen visible = record {
            kept_is_visible = λ x kept apart.
                by_test (same cmp x e) (λ here. ap (is_visible cmp g f.region) (same_is cmp total equal_is_same x e here) ∙ visible)
                (λ here. right.kept_is_visible x kept (ap (λ b. b || is_among cmp x es) here ∙ apart));
            kept_is_sought = right.kept_is_sought;
            admitted_is_kept = right.admitted_is_kept;
          }

          gone : is_visible cmp g f.region e ≡ false → KeepsBut cmp matching (any_of cmp es) nothing_left g (forgotten cmp e f)
          gone hidden =
              let parts = λ (x : K) (kept : keeps cmp (forgotten cmp e f) x ≡ true). and_parts (keeps cmp f x) (not (same cmp e x)) (sym (names-without_key cmp total equal_is_same x e f.told) ∙ kept) in
              record {
                kept_is_visible = λ x kept apart.
                    let both = parts x kept in
                    right.kept_is_visible x both.0
                    (ap (λ b. b || is_among cmp x es) (by_test (same cmp x e) (λ here. never (ap (same cmp e) (same_is cmp total equal_is_same x e here) ∙ same_itself cmp total e) (not-true (same cmp e x) both.1)) (λ here. here)) ∙ apart);
                kept_is_sought = λ x kept. right.kept_is_sought x (parts x kept).0;
                admitted_is_kept = λ x admitted covered _.
                    names-without_key cmp total equal_is_same x e f.told
                    ∙ and_from (keeps cmp f x) (not (same cmp e x)) (right.admitted_is_kept x admitted covered refl)
                    (not_from_false (same cmp e x) (by_test (same cmp e x) (λ here. never (ap (is_visible cmp g f.region) (same_is cmp total equal_is_same e x here) ∙ admitted_visible cmp g f.region x admitted) hidden) (λ here. here)));
              }
