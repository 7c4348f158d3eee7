-- What is known of queryables by expression, as one more is added, and when each is declared.
--     known-none      of none nothing is known
--     known-more      one more
--     each-known      each expression is declared with what is known of it
--     sent-more       what is sent, with one more
--     sent-all        what is sent when none is left
use Rattle.std.proofs.Common.{◌≡◌, ℕ, suc, true, false, cond, List, [], ◌∷◌, ◌++◌, Option, Some, None, ap, append_assoc, arith, get_or, map, refl, sym, ◌∙◌}
use Rattle.std.proofs.lemmas.List.{append-nil}
use Rattle.std.specs.BTreeMap.{insert_entry, is_at}
use Rattle.std.specs.Cmp.{IsTotalOrder, eq_by_cmp_equiv}
use Rattle.std.specs.List.{All, flat_map}
use Rattle.std.specs.Map.{keys_of, lookup}
use Rattle.std.specs.Option.{option_to_list}
use Rattle.std.specs.Ordering.{is_eq, match_ordering}
use Rattle.std.specs.FinMap.Entries.{by_order}
use Rattle.std.specs.declared.cmp.Ordering.{Ordering}
use Rattle.std.specs.declared.cmp.Ordering.TheVariants.{Less, Equal, Greater}
use Rattle.zt_keys.specs.Test.{by_test}
use Rattle.zt_protocol.specs.declared.messages.QueryableInfo.{QueryableInfo}
use Rattle.zt_model.specs.Entities.{info_of, merged}
use Rattle.zt_model.specs.Lists.{in_key_order, same, with_key}
use Rattle.zt_entities.specs.Known.{AreKnown}
use Rattle.zt_entities.specs.Merging.{merged_with}

equal-from : (o : Ordering) → is_eq o ≡ true → o ≡ Equal
equal-from Less h = cc
equal-from Equal h = refl
equal-from Greater h = cc

-- an expression more among those in order
keys-put : {K X : Type 0} (cmp : K → K → Ordering) (k : K) (x : X) (es : List (K × X)) → keys_of (insert_entry cmp es k x) ≡ with_key cmp k (keys_of es)
keys-put cmp k x [] = refl
keys-put cmp k x (e ∷ es) = place (cmp k e.0) (keys-put cmp k x es)
  where
    place : (o : Ordering) → keys_of (insert_entry cmp es k x) ≡ with_key cmp k (keys_of es)
        → keys_of (match_ordering o ((k, x) ∷ e ∷ es) ((e.0, x) ∷ es) (e ∷ insert_entry cmp es k x))
        ≡ by_order o (k ∷ e.0 ∷ keys_of es) (e.0 ∷ keys_of es) (e.0 ∷ with_key cmp k (keys_of es))
    place Less rest = refl
    place Equal rest = refl
    place Greater rest = ap (λ ks. e.0 ∷ ks) rest

-- what is known of one more, together with what is known of others
merged-is : (info : QueryableInfo) (known : Option QueryableInfo) → Some (merged_with info known) ≡ elim known [ None ↦ Some info | Some other ↦ Some (merged info other) ]
merged-is info None = refl
merged-is info (Some other) = refl

module _ {K : Type 0} (cmp : K → K → Ordering) where
  pub known-none : AreKnown cmp [] []
  known-none = record { keys = refl; at = λ e. refl }

  module _ (total : IsTotalOrder cmp) (one : (a b : K) → cmp a b ≡ Equal → a ≡ b) where
    pub known-more : (q : K × QueryableInfo) (info : QueryableInfo) (found old new : List (K × QueryableInfo))
        → info ≡ merged_with q.1 (lookup (is_at (cmp q.0)) old)
        → new ≡ insert_entry cmp old q.0 info
        → ((e : K) → lookup (is_at (cmp e)) new ≡ cond (is_at (cmp q.0) e) (Some info) (lookup (is_at (cmp e)) old))
        → AreKnown cmp found old → AreKnown cmp (q ∷ found) new
    known-more q info found old new is put looks known = record {
      keys = ap keys_of put ∙ keys-put cmp q.0 info old ∙ ap (with_key cmp q.0) known.keys;
      at = λ e.
          by_test (same cmp e q.0)
          (λ t.
          let back : is_at (cmp q.0) e ≡ true = sym ((eq_by_cmp_equiv total).symm e q.0) ∙ t in
          let own : e ≡ q.0 = one e q.0 (equal-from (cmp e q.0) t) in
          let before : lookup (is_at (cmp q.0)) old ≡ info_of cmp e found = ap (λ k. lookup (is_at (cmp k)) old) (sym own) ∙ known.at e in
          looks e ∙ rw (back, t) (ap Some is ∙ ap (λ o. Some (merged_with q.1 o)) before ∙ merged-is q.1 (info_of cmp e found)))
          (λ f.
          let back : is_at (cmp q.0) e ≡ false = sym ((eq_by_cmp_equiv total).symm e q.0) ∙ f in
          looks e ∙ rw (back, f) (known.at e));
    }

  -- each expression of entries is declared with its own value, where that is what a function gives
  module _ {M : Type 0} (declare : K → QueryableInfo → M) (info : K → Option QueryableInfo) where
    each-own : (es : List (K × QueryableInfo)) → All (λ e. info e.0 ≡ Some e.1) es
        → flat_map (λ e. map (declare e) (option_to_list (info e))) (keys_of es) ≡ map (λ e. declare e.0 e.1) es
    each-own [] own = refl
    each-own (e ∷ es) own =
        let first : info e.0 ≡ Some e.1 = own 0 e (omega arith) in
        rw first (ap (λ rest. declare e.0 e.1 ∷ rest) (each-own es (λ i d lt. own (suc i) d (omega (arith, lt)))))

  pub each-known : {M : Type 0} (declare : K → QueryableInfo → M) (found es : List (K × QueryableInfo)) → AreKnown cmp found es
      → All (λ e. lookup (is_at (cmp e.0)) es ≡ Some e.1) es
      → map (λ e. declare e.0 e.1) es ≡ flat_map (λ e. map (declare e) (option_to_list (info_of cmp e found))) (in_key_order cmp (map (λ q. q.0) found))
  each-known declare found es known own =
      sym (each-own declare (λ e. info_of cmp e found) es (λ i d lt. sym (known.at (get_or es i d).0) ∙ own i d lt))
      ∙ ap (flat_map (λ e. map (declare e) (option_to_list (info_of cmp e found)))) known.keys

  -- what is sent of those left, of which one is first
  pub sent-more : {M : Type 0} (declare : K → QueryableInfo → M) (face : ℕ) (e : K × QueryableInfo) (left : List (K × QueryableInfo)) (before after : List (ℕ × M))
      → after ≡ before ++ (face, declare e.0 e.1) ∷ []
      → after ++ map (λ m. (face, m)) (map (λ q. declare q.0 q.1) left) ≡ before ++ map (λ m. (face, m)) (map (λ q. declare q.0 q.1) (e ∷ left))
  sent-more declare face e left before after more =
      let rest = map (λ m. (face, m)) (map (λ q. declare q.0 q.1) left) in
      ap (λ sends. sends ++ rest) more ∙ append_assoc before ((face, declare e.0 e.1) ∷ []) rest

  -- all is sent when none is left
  pub sent-all : {M : Type 0} (declare : K → QueryableInfo → M) (face : ℕ) (found es left given : List (K × QueryableInfo)) (before sends : List (ℕ × M))
      → AreKnown cmp found es → All (λ e. lookup (is_at (cmp e.0)) es ≡ Some e.1) es → left ≡ [] → given ≡ es
      → sends ++ map (λ m. (face, m)) (map (λ q. declare q.0 q.1) left) ≡ before ++ map (λ m. (face, m)) (map (λ q. declare q.0 q.1) given)
      → sends ≡ before ++ map (λ m. (face, m)) (flat_map (λ e. map (declare e) (option_to_list (info_of cmp e found))) (in_key_order cmp (map (λ q. q.0) found)))
  sent-all declare face found es left given before sends known own none all sent =
      sym (append-nil sends) ∙ (rw (none, all) at sent) ∙ ap (λ ms. before ++ map (λ m. (face, m)) ms) (each-known declare found es known own)
