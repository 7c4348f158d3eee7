-- Faces that change, open and go, beside what is looked up.
use Rattle.std.proofs.Common.{◌≡◌, ℕ, ◌==◌, Bool, true, false, not, ◌&&◌, ◌||◌, if◌then◌else◌, List, [], ◌∷◌, ◌++◌, Some, None, ap, filter, flat_map, map, refl, subst, sym, ◌∙◌}
use Rattle.std.proofs.lemmas.List.{map-append}
use Rattle.std.proofs.lemmas.List.Elements.{filter-append}
use Rattle.std.specs.Cmp.{IsTotalOrder}
use Rattle.std.specs.List.{AllByRecursion, list_any}
use Rattle.std.specs.List.Sorted.{IsStrictlySortedBy}
use Rattle.std.specs.Ordering.{nat_cmp}
use Rattle.std.specs.declared.cmp.Ordering.{Ordering}
use Rattle.std.specs.declared.cmp.Ordering.TheVariants.{Equal}
use Rattle.zt_keys.specs.Test.{by_test}
use Rattle.zt_keys.specs.declared.anchor.Anchor.{Anchor}
use Rattle.zt_region.specs.Region.{is_north}
use Rattle.std.specs.Prelude.{IfSome, Option}
use Rattle.zt_interest_index.specs.Held.{indexed-none}
use Rattle.zt_interest_index.specs.Holders.{IsIndexOf}
use Rattle.zt_interest_index.specs.Holdings.{asks_from}
use Rattle.zt_model.specs.Rows.{ById, Face, InterestRow}
use Rattle.std.specs.FinMap.Entries.{put}
use Rattle.std.proofs.lemmas.List.Folds.{list_any-append}
use Rattle.zt_protocol.specs.Interest.{is_future}
use Rattle.zt_protocol.specs.declared.messages.Message.{Message}
use Rattle.zt_protocol.specs.declared.messages.Message.TheVariants.{DeclareToken, UndeclareToken, DeclareFinal, Interest, InterestFinal, DeclareSubscriber, DeclareQueryable}
use Rattle.zt_face.specs.Told.{AreApart, untold_known}
use Rattle.zt_rows.specs.ById.{IsInOrder}
use Rattle.zt_face.proofs.Told.{dropped_without, none_dropped, told_at as row-told}
use Rattle.zt_interest_index.specs.Holdings.{is_of}
use Rattle.zt_interest_index.specs.Index.{Interests}
use Rattle.zt_model.specs.Hearing.{put_if, untold}
use Rattle.zt_model.specs.Parts.{told_id}
use Rattle.zt_model.specs.Routing.{asked_as, unheld}
use Rattle.zt_token_index.specs.Seekers.{AreSeekers, DropsAll, DropsOf, IsKnown, IsOnlyOne, Leaves, PutsOf, Reseeks, Seeking}
use Rattle.zt_token_index.specs.Seekers.{in_others, in_tokens, kind_rows, may_seek, no_seekers, north_numbers, rows_of, token_rows}
use Rattle.zt_token_index.specs.Told.{id_of, told_at}
use Rattle.zt_token_index.specs.Retold.{IsRetold, gone_id}
use Rattle.zt_token_index.proofs.AmongFaces.{all-changed, all-kept, all-less, all-more, at-changed, at-kept, at-less, at-more, at-own, of-one}
use Rattle.zt_token_index.proofs.Held.{dropped, index_alike, kept, put_all}
use Rattle.zt_token_index.proofs.Numbers.{chosen_in, chosen_sorted, in_tests, is_in, seeks_any, sorted_same}

module _ {K : Type 0} where
  -- a change that keeps the number and the region
  pub north_kept : (n : ℕ) (change : Face K → Face K) → ((x : Face K) → (change x).number ≡ x.number) → ((x : Face K) → (change x).region ≡ x.region) → (fs : List (Face K))
      → north_numbers (map (λ x. if n == x.number then change x else x) fs) ≡ north_numbers fs
  north_kept n change number region [] = refl
  north_kept n change number region (x ∷ xs) =
      let rest = north_kept n change number region xs in
      let still : is_north (if n == x.number then change x else x).region ≡ is_north x.region = by_number (n == x.number) in
      by_test (is_north x.region)
      (λ t. rw (still, t) (λ i. numbered (n == x.number) i ∷ rest i))
      (λ t. rw (still, t) rest)
    where
      by_number : (b : Bool) → is_north (if b then change x else x).region ≡ is_north x.region
      by_number true = ap is_north (region x)
      by_number false = refl

      numbered : (b : Bool) → (if b then change x else x).number ≡ x.number
      numbered true = number x
      numbered false = refl

  -- a face goes
  pub north_less : (n : ℕ) (fs : List (Face K)) → filter (λ m. not (n == m)) (north_numbers fs) ≡ north_numbers (filter (λ x. not (n == x.number)) fs)
  north_less n [] = refl
  north_less n (x ∷ xs) =
      let rest = north_less n xs in
      by_test (is_north x.region)
      (λ t. by_test (n == x.number) (λ u. rw (t, u) rest) (λ u. rw (u, t, u) (ap (λ ms. x.number ∷ ms) rest)))
      (λ t. by_test (n == x.number) (λ u. rw (t, u) rest) (λ u. rw (u, t) rest))

  -- a face comes
  pub north_more : (fs : List (Face K)) (f : Face K) → north_numbers (fs ++ f ∷ []) ≡ north_numbers fs ++ north_numbers (f ∷ [])
  north_more fs f =
      ap (map (λ (x : Face K). x.number)) (filter-append (λ (x : Face K). is_north x.region) fs (f ∷ []))
      ∙ map-append (λ (x : Face K). x.number) (filter (λ x. is_north x.region) fs) (filter (λ x. is_north x.region) (f ∷ []))

  rows_more : (kind : InterestRow K → Bool) (fs : List (Face K)) (f : Face K) → f.held ≡ [] → flat_map (kind_rows kind) (fs ++ f ∷ []) ≡ flat_map (kind_rows kind) fs
  rows_more kind [] f none = ap (λ (held : ById (InterestRow K)). rows_of kind f.number held ++ []) none
  rows_more kind (x ∷ xs) f none = ap (λ rows. kind_rows kind x ++ rows) (rows_more kind xs f none)

  module _ (cmp : K → K → Ordering) (anchored : Anchor → K → Option ℕ) where
    pub seekers-none : AreSeekers cmp anchored no_seekers []
    seekers-none = record { north = refl; index = indexed-none cmp; others = indexed-none cmp; told = λ e n. refl; apart = tt }

    -- a change that keeps the number, the region, what the face holds and what it was told
    pub seekers-quiet : (n : ℕ) (change : Face K → Face K) → ((x : Face K) → (change x).number ≡ x.number) → ((x : Face K) → (change x).region ≡ x.region) → ((x : Face K) → (change x).held ≡ x.held) → ((x : Face K) → (change x).told ≡ x.told)
        → (seeking : Seeking K) (fs : List (Face K)) → AreSeekers cmp anchored seeking fs → AreSeekers cmp anchored seeking (map (λ x. if n == x.number then change x else x) fs)
    seekers-quiet n change number region held told seeking fs are = record {
      north = are.north ∙ sym (north_kept n change number region fs);
      index = subst (IsIndexOf cmp seeking.index) (sym (kept in_tokens n change number held fs)) are.index;
      others = subst (IsIndexOf cmp seeking.others) (sym (kept in_others n change number held fs)) are.others;
      told = λ e m. are.told e m ∙ at-kept cmp e n change number told m fs;
      apart = all-kept (λ (x : Face K). AreApart cmp x.told) n change (λ x apart. subst (AreApart cmp) (sym (told x)) apart) fs are.apart;
    }

    -- a face more that holds nothing and was told nothing yet
    pub seekers-opened : (f : Face K) → f.held ≡ [] → f.told ≡ [] → (seeking : Seeking K) (fs : List (Face K)) → AreSeekers cmp anchored seeking fs
        → AreSeekers cmp anchored (record seeking { north = seeking.north ++ north_numbers (f ∷ []) }) (fs ++ f ∷ [])
    seekers-opened f none untold seeking fs are = record {
      north = ap (λ ns. ns ++ north_numbers (f ∷ [])) are.north ∙ sym (north_more fs f);
      index = subst (IsIndexOf cmp seeking.index) (sym (rows_more in_tokens fs f none)) are.index;
      others = subst (IsIndexOf cmp seeking.others) (sym (rows_more in_others fs f none)) are.others;
      told = λ e m. are.told e m ∙ at-more cmp e f untold m fs;
      apart = all-more (λ (x : Face K). AreApart cmp x.told) fs f are.apart (subst (AreApart cmp) (sym untold) tt);
    }

    -- the interest of an id goes
    pub seekers-unheld : (f : Face K) (id : ℕ) (old new : Seeking K) → new.north ≡ old.north → new.told ≡ old.told
        → DropsOf cmp in_tokens f id old.index new.index → DropsOf cmp in_others f id old.others new.others → Reseeks cmp anchored f (unheld id) old new
    seekers-unheld f id old new same still drops drops_other = record {
      at = λ fs one are. record {
        north = same ∙ are.north ∙ sym (north_kept f.number (unheld id) (λ x. refl) (λ x. refl) fs);
        index = subst (IsIndexOf cmp new.index) (dropped in_tokens f.number id (unheld id) (λ x. refl) (λ x. refl) fs) (drops fs one are.index);
        others = subst (IsIndexOf cmp new.others) (dropped in_others f.number id (unheld id) (λ x. refl) (λ x. refl) fs) (drops_other fs one are.others);
        told = λ e m. ap (λ told. id_of m (told_at cmp e told)) still ∙ are.told e m ∙ at-kept cmp e f.number (unheld id) (λ x. refl) (λ x. refl) m fs;
        apart = all-kept (λ (x : Face K). AreApart cmp x.told) f.number (unheld id) (λ x apart. apart) fs are.apart;
      };
    }

    -- an index of a kind, where an interest comes in place of the one of its id
    index-held : (kind : InterestRow K → Bool) (f : Face K) (id : ℕ) (i : InterestRow K) (change : Face K → Face K) → ((x : Face K) → (change x).number ≡ x.number) → ((x : Face K) → (change x).held ≡ put nat_cmp id i x.held)
        → (old mid new : Interests K) → DropsOf cmp kind f id old mid → PutsOf cmp kind f.number id i mid new → (fs : List (Face K)) → IsOnlyOne f fs → AllByRecursion (λ x. (f.number == x.number) ≡ true → IsInOrder x.held) fs
        → IsIndexOf cmp old (flat_map (kind_rows kind) fs) → IsIndexOf cmp new (flat_map (kind_rows kind) (map (λ x. if f.number == x.number then change x else x) fs))
    index-held kind f id i change number held old mid new drops puts fs one ordered was =
        index_alike cmp new (rows_of kind f.number ((id, i) ∷ []) ++ filter (λ row. not (is_of f.number id row)) (flat_map (kind_rows kind) fs)) (flat_map (kind_rows kind) (map (λ x. if f.number == x.number then change x else x) fs))
        (λ test.
        list_any-append test (rows_of kind f.number ((id, i) ∷ [])) (filter (λ row. not (is_of f.number id row)) (flat_map (kind_rows kind) fs))
        ∙ ap (λ b. (b && list_any test (rows_of kind f.number ((id, i) ∷ []))) || list_any test (filter (λ row. not (is_of f.number id row)) (flat_map (kind_rows kind) fs))) (sym one.found)
        ∙ sym (put_all kind test f.number id i change number held fs ordered))
        (puts (filter (λ row. not (is_of f.number id row)) (flat_map (kind_rows kind) fs)) (drops fs one was))

    -- an interest comes in place of the one of its id
    pub seekers-held : (f : Face K) (id : ℕ) (i : InterestRow K) (pendings : List (ℕ × ℕ)) → is_future i.mode ≡ true → IsInOrder f.held → (old : Seeking K) (mid mid_other : Interests K) (new : Seeking K) → new.north ≡ old.north → new.told ≡ old.told
        → DropsOf cmp in_tokens f id old.index mid → DropsOf cmp in_others f id old.others mid_other
        → PutsOf cmp in_tokens f.number id i mid new.index → PutsOf cmp in_others f.number id i mid_other new.others
        → Reseeks cmp anchored f (asked_as pendings id i) old new
    seekers-held f id i pendings future sorted old mid mid_other new same still drops drops_other puts puts_other =
        let change = asked_as pendings id i in
        let held : (x : Face K) → (change x).held ≡ put nat_cmp id i x.held = λ x. ap (λ b. put_if b id i x.held) future in
        record {
          at = λ fs one are. record {
            north = same ∙ are.north ∙ sym (north_kept f.number change (λ x. refl) (λ x. refl) fs);
            index = index-held in_tokens f id i change (λ x. refl) held old.index mid new.index drops puts fs one (ordered fs one.only) are.index;
            others = index-held in_others f id i change (λ x. refl) held old.others mid_other new.others drops_other puts_other fs one (ordered fs one.only) are.others;
            told = λ e m. ap (λ told. id_of m (told_at cmp e told)) still ∙ are.told e m ∙ at-kept cmp e f.number change (λ x. refl) (λ x. refl) m fs;
            apart = all-kept (λ (x : Face K). AreApart cmp x.told) f.number change (λ x apart. apart) fs are.apart;
          };
        }
      where
        ordered : (fs : List (Face K)) → AllByRecursion (λ x. (f.number == x.number) ≡ true → x ≡ f) fs → AllByRecursion (λ x. (f.number == x.number) ≡ true → IsInOrder x.held) fs
        ordered [] only = tt
        ordered (x ∷ xs) only = (λ t. subst (λ (y : Face K). IsInOrder y.held) (sym (only.0 t)) sorted, ordered xs only.1)

    -- an interest that asks for what is there now alone isn't held
    pub seekers-unchanged : (f : Face K) (id : ℕ) (i : InterestRow K) (pendings : List (ℕ × ℕ)) → is_future i.mode ≡ false → (seeking : Seeking K) → Reseeks cmp anchored f (asked_as pendings id i) seeking seeking
    seekers-unchanged f id i pendings never seeking = record {
      at = λ fs one are. seekers-quiet f.number (asked_as pendings id i) (λ x. refl) (λ x. refl) (λ x. ap (λ b. put_if b id i x.held) never) (λ x. refl) seeking fs are;
    }

    -- what the face was told is apart, and found
    its-apart : (f : Face K) (seeking : Seeking K) (fs : List (Face K)) → IsOnlyOne f fs → AreSeekers cmp anchored seeking fs → AreApart cmp f.told
    its-apart f seeking fs one are = of-one (λ (x : Face K). AreApart cmp x.told) f fs one.found one.only are.apart

    its-found : (f : Face K) (seeking : Seeking K) (fs : List (Face K)) → IsOnlyOne f fs → AreSeekers cmp anchored seeking fs → (e : K) → id_of f.number (told_at cmp e seeking.told) ≡ told_id cmp e f.told
    its-found f seeking fs one are e = are.told e f.number ∙ at-own cmp e f fs one.found one.only

    -- what the face was told changes, and nothing else that is looked up
    pub seekers-retold : (f : Face K) (change : Face K → Face K) → ((x : Face K) → (change x).number ≡ x.number) → ((x : Face K) → (change x).region ≡ x.region) → ((x : Face K) → (change x).held ≡ x.held)
        → (old new : Seeking K) → new.north ≡ old.north → new.index ≡ old.index → new.others ≡ old.others → IsRetold cmp f.number f.told (change f).told old.told new.told → Reseeks cmp anchored f change old new
    seekers-retold f change number region held old new same still still_other retold = record {
      at = λ fs one are.
          let apart = its-apart f old fs one are in
          let finds = its-found f old fs one are in
          record {
            north = same ∙ are.north ∙ sym (north_kept f.number change number region fs);
            index = rw still (subst (IsIndexOf cmp old.index) (sym (kept in_tokens f.number change number held fs)) are.index);
            others = rw still_other (subst (IsIndexOf cmp old.others) (sym (kept in_others f.number change number held fs)) are.others);
            told = λ e m. retold.at apart finds e m ∙ ap (λ o. if f.number == m then told_id cmp e (change f).told else o) (are.told e m) ∙ at-changed cmp e f change number fs one.found one.only m;
            apart = all-changed (λ (x : Face K). AreApart cmp x.told) f change (retold.apart apart finds) fs one.only are.apart;
          };
    }

    -- the face goes
    pub seekers-closed : (f : Face K) (old new : Seeking K) → new.north ≡ filter (λ m. not (f.number == m)) old.north → IsRetold cmp f.number f.told [] old.told new.told
        → DropsAll cmp in_tokens f old.index new.index → DropsAll cmp in_others f old.others new.others → Leaves cmp anchored f old new
    seekers-closed f old new less retold drops drops_other = record {
      at = λ fs one are. record {
        north = less ∙ ap (filter (λ m. not (f.number == m))) are.north ∙ north_less f.number fs;
        index = drops fs one are.index;
        others = drops_other fs one are.others;
        told = λ e m. retold.at (its-apart f old fs one are) (its-found f old fs one are) e m ∙ ap (λ o. if f.number == m then told_id cmp e [] else o) (are.told e m) ∙ at-less cmp e f.number fs m;
        apart = all-less (λ (x : Face K). AreApart cmp x.told) f.number fs are.apart;
      };
    }

    -- a message is heard by the id that is known
    pub seekers-known : IsTotalOrder cmp → ((a b : K) → cmp a b ≡ Equal → a ≡ b) → (f : Face K) (message : Message K) (known : Option ℕ) (seeking : Seeking K)
        → known ≡ gone_id cmp f.number message seeking.told → IfSome known (λ id. IsInOrder f.told) → IsKnown cmp anchored f message known seeking
    seekers-known total exact f (UndeclareToken id (Some e) node) known seeking is ordered = record {
      at = λ fs one are moment.
          ap (λ told. record f { told = told }) (by-id known ordered (its-apart f seeking fs one are) (sym (is ∙ its-found f seeking fs one are e)));
    }
      where
        by-id : (known : Option ℕ) → IfSome known (λ id. IsInOrder f.told) → AreApart cmp f.told → told_id cmp e f.told ≡ known → untold_known id (Some e) known f.told ≡ untold cmp id (Some e) f.told
        by-id None ordered apart told = sym (none_dropped cmp total exact e f.told told)
        by-id (Some n) ordered apart told = sym (dropped_without cmp total exact n e f.told ordered apart (row-told cmp total exact n e f.told ordered told))
    seekers-known total exact f (UndeclareToken id None node) known seeking is ordered = record { at = λ fs one are moment. refl }
    seekers-known total exact f (DeclareToken id e interest node) known seeking is ordered = record { at = λ fs one are moment. refl }
    seekers-known total exact f (DeclareFinal interest) known seeking is ordered = record { at = λ fs one are moment. refl }
    seekers-known total exact f (Interest id mode options e) known seeking is ordered = record { at = λ fs one are moment. refl }
    seekers-known total exact f (InterestFinal id) known seeking is ordered = record { at = λ fs one are moment. refl }
    seekers-known total exact f (DeclareSubscriber id e interest) known seeking is ordered = record { at = λ fs one are moment. refl }
    seekers-known total exact f (DeclareQueryable id e info interest) known seeking is ordered = record { at = λ fs one are moment. refl }

    -- those found are the faces that seek the expression
    pub seekers-found : (matching : K → K → Bool) (e : K) (seeking : Seeking K) (found : List ℕ) (fs : List (Face K)) → IsStrictlySortedBy nat_cmp (map (λ f. f.number) fs) → AreSeekers cmp anchored seeking fs
        → IsStrictlySortedBy nat_cmp found → ((n : ℕ) → is_in n found ≡ (list_any (λ m. n == m) seeking.north || list_any (asks_from matching e n) (flat_map token_rows fs)))
        → found ≡ map (λ f. f.number) (filter (λ f. may_seek matching f e) fs)
    seekers-found matching e seeking found fs rising are sorted among =
        sorted_same found (map (λ f. f.number) (filter (λ f. may_seek matching f e) fs)) sorted (chosen_sorted (λ (f : Face K). f.number) (λ f. may_seek matching f e) fs rising)
        (λ n.
        among n
        ∙ ap (λ b. b || list_any (asks_from matching e n) (flat_map token_rows fs)) (in_tests n seeking.north)
        ∙ ap (λ ns. is_in n ns || list_any (asks_from matching e n) (flat_map token_rows fs)) are.north
        ∙ ap (λ b. b || list_any (asks_from matching e n) (flat_map token_rows fs)) (chosen_in (λ (f : Face K). f.number) n (λ f. is_north f.region) fs)
        ∙ seeks_any matching e n fs
        ∙ sym (chosen_in (λ (f : Face K). f.number) n (λ f. may_seek matching f e) fs))
