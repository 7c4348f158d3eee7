-- Lists of which one item changes.
use Rattle.std.proofs.Common.{◌≡◌, ℕ, zero, suc, ◌<◌, ◌≤◌, List, [], ◌∷◌, map, length, take, get_or, set, refl, ap, arith}
use Rattle.std.specs.List.{AllByRecursion, AllZip}

module _ {A : Type 0} (R : A → A → Type 0) where
  pub AllZip-self : ((a : A) → R a a) → (xs : List A) → AllZip R xs xs
  AllZip-self self [] = tt
  AllZip-self self (x ∷ xs) = (self x, AllZip-self self xs)

  pub AllZip-length : (xs ys : List A) → AllZip R xs ys → length xs ≡ length ys
  AllZip-length [] [] zip = refl
  AllZip-length [] (y ∷ ys) zip = absurd zip
  AllZip-length (x ∷ xs) [] zip = absurd zip
  AllZip-length (x ∷ xs) (y ∷ ys) zip = ap suc (AllZip-length xs ys zip.1)

  pub AllZip-set : ((a b c : A) → R a b → R b c → R a c) → (xs ys : List A) (i : ℕ) (d new : A) → i < length ys → R (get_or ys i d) new → AllZip R xs ys → AllZip R xs (set ys i new)
  AllZip-set trans [] [] i d new inside more zip = absurd (omega arith)
  AllZip-set trans [] (y ∷ ys) i d new inside more zip = absurd zip
  AllZip-set trans (x ∷ xs) [] i d new inside more zip = absurd zip
  AllZip-set trans (x ∷ xs) (y ∷ ys) zero d new inside more zip = (trans x y new zip.0 more, zip.1)
  AllZip-set trans (x ∷ xs) (y ∷ ys) (suc i) d new inside more zip = (zip.0, AllZip-set trans xs ys i d new (omega arith) more zip.1)

  -- what R carries over
  pub AllZip-right : (F G : A → Type 0) → ((a b : A) → R a b → F a → G b) → (xs ys : List A) → AllZip R xs ys → AllByRecursion F xs → AllByRecursion G ys
  AllZip-right F G over [] [] zip all = tt
  AllZip-right F G over [] (y ∷ ys) zip all = absurd zip
  AllZip-right F G over (x ∷ xs) [] zip all = absurd zip
  AllZip-right F G over (x ∷ xs) (y ∷ ys) zip all = (over x y zip.0 all.0, AllZip-right F G over xs ys zip.1 all.1)

  pub AllZip-left : (F G : A → Type 0) → ((a b : A) → R a b → F b → G a) → (xs ys : List A) → AllZip R xs ys → AllByRecursion F ys → AllByRecursion G xs
  AllZip-left F G over [] [] zip all = tt
  AllZip-left F G over [] (y ∷ ys) zip all = absurd zip
  AllZip-left F G over (x ∷ xs) [] zip all = absurd zip
  AllZip-left F G over (x ∷ xs) (y ∷ ys) zip all = (over x y zip.0 all.0, AllZip-left F G over xs ys zip.1 all.1)

  pub AllZip-map : {B : Type 0} (f : A → B) → ((a b : A) → R a b → f a ≡ f b) → (xs ys : List A) → AllZip R xs ys → map f xs ≡ map f ys
  AllZip-map f same [] [] zip = refl
  AllZip-map f same [] (y ∷ ys) zip = absurd zip
  AllZip-map f same (x ∷ xs) [] zip = absurd zip
  AllZip-map f same (x ∷ xs) (y ∷ ys) zip = let head = same x y zip.0 in let tail = AllZip-map f same xs ys zip.1 in cc

module _ {A : Type 0} (F : A → Type 0) where
  pub AllByRecursion-get : (xs : List A) (i : ℕ) (d : A) → i < length xs → AllByRecursion F xs → F (get_or xs i d)
  AllByRecursion-get [] i d inside all = absurd (omega arith)
  AllByRecursion-get (x ∷ xs) zero d inside all = all.0
  AllByRecursion-get (x ∷ xs) (suc i) d inside all = AllByRecursion-get xs i d (omega arith) all.1

  -- one item more of a beginning, which was written
  pub AllByRecursion-next : (xs : List A) (i : ℕ) (new : A) → i < length xs → AllByRecursion F (take i xs) → F new → AllByRecursion F (take (suc i) (set xs i new))
  AllByRecursion-next [] i new inside all one = absurd (omega arith)
  AllByRecursion-next (x ∷ xs) zero new inside all one = (one, tt)
  AllByRecursion-next (x ∷ xs) (suc i) new inside all one = (all.0, AllByRecursion-next xs i new (omega arith) all.1 one)

  pub AllByRecursion-whole : (xs : List A) (n : ℕ) → length xs ≤ n → AllByRecursion F (take n xs) → AllByRecursion F xs
  AllByRecursion-whole [] n le all = tt
  AllByRecursion-whole (x ∷ xs) zero le all = absurd (omega arith)
  AllByRecursion-whole (x ∷ xs) (suc n) le all = (all.0, AllByRecursion-whole xs n (omega arith) all.1)

pub get_or-map-set : {A B : Type 0} (f : A → B) (xs : List A) (i : ℕ) (new : A) (d : B) → i < length xs → get_or (map f (set xs i new)) i d ≡ f new
get_or-map-set f [] i new d inside = absurd (omega arith)
get_or-map-set f (x ∷ xs) zero new d inside = refl
get_or-map-set f (x ∷ xs) (suc i) new d inside = get_or-map-set f xs i new d (omega arith)
