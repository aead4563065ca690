-- Words of choices: a state says which choices are open, what each costs and where it leads.
-- Of the words of a given length that end well, the best costs least and, among equals, comes first.
use Rattle.std.specs.Prelude.{◌≡◌, ℕ, zero, suc, ◌<◌, Bool, true, false, cond, ◌⊎◌, List, [], ◌∷◌, Some, None, Option}
use Rattle.scales.specs.Measure.{Measure}

pub record Process (St C : Type 0) : Type 0 where
  pub width : ℕ
  pub may : St → ℕ → Bool
  pub after : St → ℕ → St
  pub price : St → ℕ → C
  pub done : St → Bool

-- w is m choices from s that are open one after the other and end well
abbrev pub Run : {St C : Type 0} → Process St C → ℕ → St → List ℕ → Type 0
Run G zero s [] = G.done s ≡ true
Run G zero s (x ∷ w) = ⊥
Run G (suc m) s [] = ⊥
Run G (suc m) s (x ∷ w) = (x < G.width) × (G.may s x ≡ true) × Run G m (G.after s x) w

abbrev pub spent : {St C : Type 0} → Measure C → Process St C → St → List ℕ → C
spent S G s [] = S.nothing
spent S G s (x ∷ w) = S.join (G.price s x) (spent S G (G.after s x) w)

-- w comes before v: at the first place where they differ it has the lower number
abbrev pub Ahead : List ℕ → List ℕ → Type 0
Ahead [] v = ⊥
Ahead (x ∷ w) [] = ⊥
Ahead (x ∷ w) (y ∷ v) = (x < y) ⊎ ((x ≡ y) × Ahead w v)

abbrev pub Beats : {St C : Type 0} → Measure C → Process St C → St → List ℕ → List ℕ → Type 0
Beats S G s w v =
    (w ≡ v) ⊎ ((S.lower (spent S G s w) (spent S G s v) ≡ true) ⊎ ((spent S G s w ≡ spent S G s v) × Ahead w v))

pub record BestWord {St C : Type 0} (S : Measure C) (G : Process St C) (m : ℕ) (s : St) (w : List ℕ) (c : C) : Type 0 where
  pub runs : Run G m s w
  pub costs : spent S G s w ≡ c
  pub beats : (v : List ℕ) → Run G m s v → Beats S G s w v

-- what the search computes

abbrev pub under : {C : Type 0} → Measure C → Option C → Option C → Bool
under S None None = false
under S None (Some b) = true
under S (Some a) None = false
under S (Some a) (Some b) = S.lower b a

-- the least of f 0 .. f (n - 1), and where it first stands
abbrev pub least : {C : Type 0} → Measure C → ℕ → (ℕ → Option C) → Option C
least S zero f = None
least S (suc n) f = cond (under S (least S n f) (f n)) (f n) (least S n f)

abbrev pub first : {C : Type 0} → Measure C → ℕ → (ℕ → Option C) → ℕ
first S zero f = 0
first S (suc n) f = cond (under S (least S n f) (f n)) n (first S n f)

abbrev pub with : {C : Type 0} → Measure C → C → Option C → Option C
with S a None = None
with S a (Some b) = Some (S.join a b)

-- the least cost of the m choices to come from s, and the best word
unfoldable pub rest : {St C : Type 0} → Measure C → Process St C → ℕ → St → Option C
rest S G zero s = cond (G.done s) (Some S.nothing) None
rest S G (suc m) s = least S G.width (λ x. cond (G.may s x) (with S (G.price s x) (rest S G m (G.after s x))) None)

abbrev pub choice : {St C : Type 0} → Measure C → Process St C → ℕ → St → ℕ → Option C
choice S G m s x = cond (G.may s x) (with S (G.price s x) (rest S G m (G.after s x))) None

unfoldable pub best : {St C : Type 0} → Measure C → Process St C → ℕ → St → List ℕ
best S G zero s = []
best S G (suc m) s = first S G.width (choice S G m s) ∷ best S G m (G.after s (first S G.width (choice S G m s)))

-- what an answer says: Some: the best word's cost; None: there is no word
pub record Answers {St C : Type 0} (S : Measure C) (G : Process St C) (m : ℕ) (s : St) (o : Option C) : Type 0 where
  pub found : (c : C) → o ≡ Some c → BestWord S G m s (best S G m s) c
  pub none : o ≡ None → (v : List ℕ) → Run G m s v → ⊥

-- c stands at x in f, first among the least of f 0 .. f (n - 1)
pub record FirstOf {C : Type 0} (S : Measure C) (n : ℕ) (f : ℕ → Option C) (c : C) (x : ℕ) : Type 0 where
  pub within : x < n
  pub here : f x ≡ Some c
  pub early : (y : ℕ) (d : C) → y < x → f y ≡ Some d → S.lower c d ≡ true
  pub every : (y : ℕ) (d : C) → y < n → f y ≡ Some d → (c ≡ d) ⊎ (S.lower c d ≡ true)

abbrev pub Firstly : {C : Type 0} → Measure C → ℕ → (ℕ → Option C) → Option C → ℕ → Type 0
Firstly S n f None x = (y : ℕ) → y < n → f y ≡ None
Firstly S n f (Some c) x = FirstOf S n f c x
