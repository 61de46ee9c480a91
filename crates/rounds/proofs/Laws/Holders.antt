-- Holders of keys, linked by buckets: a walk along a bucket finds the holder of a key, and a new one comes in front of its bucket. Assumes nothing.
use Prim.Native.Nat.{ℕ, zero, suc, ◌+◌, ◌-◌, ◌*◌, ◌/◌, ◌%◌, ◌<◌, ◌≤◌}
use mathlib.Core.Path.{◌≡◌, refl, sym, ◌∙◌, ap}
use mathlib.Core.Logic.{◌⊎◌, inl, inr, by_cases}
use mathlib.Core.Bool.{Bool, true, false}
use mathlib.Core.List.{List}
use native.Mathlib.Omega.{arith}
use native.Mathlib.Nat.{mod-lt}
use native.Mathlib.Numerals.{add-one}
use native.Mathlib.Decide.{dec_le, ℕ_discrete}
use borrow.Author.Tests.{eq-eqb, ne_eqb, eqb-true, eqb-false, lt-ltb, le-ltb}
use lib.Dec.{eqb}
use lib.ListN.{length, get_or, take, set, length-set}
use lib.Seq.{get_or-set_same, get_or-set_other, get_or-take, length-take-le}
use Rattle.lists.specs.First.{first_at}
use Rattle.lists.proofs.Laws.Tests.{split, clash}
use Rattle.lists.proofs.Laws.First.{first_at_within, first_at_passes, first_at_some}
use Rattle.rounds.specs.Board.{mark_on, mark_bucket, bucket_on, last_below, last_holder, held_count, alike_on, Ready, Chained}
use Rattle.rounds.proofs.Laws.Keys.{alike_sym, alike_trans, buckets_tell}

-- the last that passes
module _ (t : ℕ → Bool) where
  pub last_none : last_below t 0 ≡ 0
  unfolding last_below
  last_none = refl

  pub last_yes : (n : ℕ) → t n ≡ true → last_below t (suc n) ≡ suc n
  unfolding last_below
  last_yes n e = rw (e, last_below) refl

  pub last_no : (n : ℕ) → t n ≡ false → last_below t (suc n) ≡ last_below t n
  unfolding last_below
  last_no n e = rw (e, last_below) refl

  pub last_low : (n : ℕ) → last_below t n ≤ n
  last_low zero = omega (arith, last_none)
  last_low (suc n) = by_test (split (t n)) (last_low n)
    where
      by_test : (t n ≡ true) ⊎ (t n ≡ false) → last_below t n ≤ n → last_below t (suc n) ≤ suc n
      by_test (inl e) ih = omega (arith, last_yes n e)
      by_test (inr e) ih = omega (arith, last_no n e, ih)

  pub last_passes : (n i : ℕ) → last_below t n ≡ suc i → t i ≡ true
  last_passes zero i h = absurd (omega (arith, h, last_none))
  last_passes (suc n) i h = by_test (split (t n)) (last_passes n i)
    where
      by_test : (t n ≡ true) ⊎ (t n ≡ false) → (last_below t n ≡ suc i → t i ≡ true) → t i ≡ true
      by_test (inl e) ih = let q : i ≡ n = omega (arith, h, last_yes n e) in ap t q ∙ e
      by_test (inr e) ih = ih (sym (last_no n e) ∙ h)

  pub last_above : (n j : ℕ) → last_below t n ≤ j → j < n → t j ≡ false
  last_above zero j h k = absurd (omega (arith, k))
  last_above (suc n) j h k = by_test (split (t n)) (last_above n j)
    where
      by_test : (t n ≡ true) ⊎ (t n ≡ false) → (last_below t n ≤ j → j < n → t j ≡ false) → t j ≡ false
      by_test (inl e) ih = absurd (omega (arith, h, k, last_yes n e))
      by_test (inr e) ih = by_cases (ℕ_discrete j n) (λ q. ap t q ∙ e) (λ d. ih (omega (arith, h, last_no n e)) (below d))
        where
          below : (j ≡ n → ⊥) → j < n
          below d = by_cases (dec_le n j) (λ u. absurd (d (omega (arith, u, k)))) (λ u. omega (arith, u))

pub last_agree : (t s : ℕ → Bool) (n : ℕ) → ((j : ℕ) → j < n → t j ≡ s j) → last_below t n ≡ last_below s n
last_agree t s zero h = last_none t ∙ sym (last_none s)
last_agree t s (suc n) h = by_test (split (t n)) (last_agree t s n (λ j k. h j (omega (arith, k))))
  where
    by_test : (t n ≡ true) ⊎ (t n ≡ false) → last_below t n ≡ last_below s n → last_below t (suc n) ≡ last_below s (suc n)
    by_test (inl e) ih = last_yes t n e ∙ sym (last_yes s n (sym (h n (omega arith)) ∙ e))
    by_test (inr e) ih = last_no t n e ∙ ih ∙ sym (last_no s n (sym (h n (omega arith)) ∙ e))

pub bucket_few : (mark colour : ℕ) → mark_bucket mark colour < 256
unfolding mark_bucket
bucket_few mark colour = mod-lt (mark * 40503 / 65536 + colour) (omega arith)

pub bucket_low : (mark colour bucket : ℕ) → bucket ≡ mark_bucket mark colour → bucket < 256
bucket_low mark colour bucket e = omega (arith, e, bucket_few mark colour)

pub bucket_is : (mark colour : ℕ) → (mark * 40503 / 65536 + colour) % 256 ≡ mark_bucket mark colour
unfolding mark_bucket
bucket_is mark colour = refl

-- how many holders there are after one more element
pub count_known : (i count : ℕ) → i < count → held_count i count ≡ count
unfolding held_count
count_known i count h = rw (lt-ltb i count h, held_count) refl

pub count_new : (i count : ℕ) → count ≤ i → held_count i count ≡ count + 1
unfolding held_count
count_new i count h = rw (le-ltb i count h, held_count) refl

pub count_small : (i count : ℕ) → held_count i count ≤ count + 1
count_small i count = by_cases (dec_le count i) (λ l. omega (arith, count_new i count l)) (λ l. omega (arith, count_known i count (omega (arith, l))))

pub chained_as :
    (cells : ℕ) (w holders marks heads links : List ℕ) (count count' : ℕ) → count' ≡ count → Chained cells w holders marks heads links count → Chained cells w holders marks heads links count'
chained_as cells w holders marks heads links count count' e k = rw e k

-- no holders at all
pub chained_none :
    (cells : ℕ) (w holders marks heads links : List ℕ) → length holders ≡ 128 → length marks ≡ 128 → (length heads ≡ 256) × ((b : ℕ) → b < 256 → get_or heads b 0 ≡ 0) → length links ≡ 128
    → Chained cells w holders marks heads links 0
chained_none cells w holders marks heads links h m d l = record {
  holders_room = h;
  marks_room = m;
  heads_room = d.0;
  links_room = l;
  few = omega arith;
  known = λ i k. absurd (omega (arith, k));
  marked = λ i k. absurd (omega (arith, k));
  apart = λ i j k. absurd (omega (arith, k));
  head = λ b k. d.1 b k ∙ sym (last_none (λ (j : ℕ). eqb (bucket_on cells w (get_or holders j 0)) b));
  link = λ i k. absurd (omega (arith, k));
}

-- the place of a key among the first holders
module _ (cells : ℕ) (w holders marks heads links : List ℕ) (count : ℕ) (k : Chained cells w holders marks heads links count) (x : ℕ) where
  abbrev alike : ℕ → Bool
  alike = alike_on cells w x

  taken_long : length (take count holders) ≡ count
  taken_long = length-take-le count holders (omega (arith, k.holders_room, k.few))

  entry : (i : ℕ) → i < count → get_or (take count holders) i 0 ≡ get_or holders i 0
  entry i h = get_or-take count holders i 0 h

  pub found_low : (i : ℕ) → i ≡ first_at alike (take count holders) → i ≤ count
  found_low i e = omega (arith, e, first_at_within alike (take count holders), taken_long)

  pub none_first : ((j : ℕ) → j < count → alike (get_or holders j 0) ≡ false) → count ≡ first_at alike (take count holders)
  none_first h = by_cases (dec_le count (first_at alike (take count holders))) (λ l. omega (arith, l, first_at_within alike (take count holders), taken_long)) (λ l. absurd (some (omega (arith, l))))
    where
      some : first_at alike (take count holders) < count → ⊥
      some l =
          clash (ap alike (sym (entry (first_at alike (take count holders)) l)) ∙ first_at_passes alike 0 (take count holders) (omega (arith, l, taken_long))) (h (first_at alike (take count holders)) l)

  pub one_first : (i : ℕ) → i < count → alike (get_or holders i 0) ≡ true → i ≡ first_at alike (take count holders)
  one_first i h e =
      let f = first_at alike (take count holders) in
      let l : first_at alike (take count holders) ≤ i = first_at_some alike 0 (take count holders) i (omega (arith, h, taken_long)) (ap alike (entry i h) ∙ e) in
      let m : first_at alike (take count holders) < count = omega (arith, l, h) in
      let q : alike (get_or holders f 0) ≡ true = ap alike (sym (entry f m)) ∙ first_at_passes alike 0 (take count holders) (omega (arith, m, taken_long)) in
      k.apart i f h m (alike_trans cells w (get_or holders i 0) x (get_or holders f 0) (alike_sym cells w x (get_or holders i 0) e) q)

-- a walk along a bucket: no holder from `limit` on has the key, and p leads to the last one before it in the bucket
pub record Seeking (w₀ : List ℕ) (cells : ℕ) (holders marks heads links : List ℕ) (count x mark : ℕ) (w : List ℕ) (p : ℕ) : Type 0 where
  pub ready : Ready cells w₀
  pub chained : Chained cells w₀ holders marks heads links count
  pub known : x < 128
  pub its_mark : mark ≡ mark_on cells w₀ x
  pub same : w ≡ w₀
  pub limit : ℕ
  pub within : limit ≤ count
  pub leads : p ≡ last_holder cells w₀ holders (bucket_on cells w₀ x) limit
  pub passed : (j : ℕ) → limit ≤ j → j < count → alike_on cells w₀ x (get_or holders j 0) ≡ false

pub seeking_start :
    (w : List ℕ) (cells : ℕ) (holders marks heads links : List ℕ) (count x mark bucket p : ℕ) → Ready cells w → Chained cells w holders marks heads links count → x < 128 → mark ≡ mark_on cells w x
    → bucket ≡ bucket_on cells w x → p ≡ get_or heads bucket 0 → Seeking w cells holders marks heads links count x mark w p
seeking_start w cells holders marks heads links count x mark bucket p r k h m b e = record {
  ready = r;
  chained = k;
  known = h;
  its_mark = m;
  same = refl;
  limit = count;
  within = omega arith;
  leads = e ∙ ap (λ (n : ℕ). get_or heads n 0) b ∙ k.head (bucket_on cells w x) (bucket_few _ _);
  passed = λ j l u. absurd (omega (arith, l, u));
}

module _ (w₀ : List ℕ) (cells : ℕ) (holders marks heads links : List ℕ) (count x mark : ℕ) (w : List ℕ) (p : ℕ) (k : Seeking w₀ cells holders marks heads links count x mark w p) where
  abbrev here : ℕ → Bool
  here j = eqb (bucket_on cells w₀ (get_or holders j 0)) (bucket_on cells w₀ x)

  -- a holder of another bucket has another key
  elsewhere : (j : ℕ) → here j ≡ false → alike_on cells w₀ x (get_or holders j 0) ≡ false
  elsewhere j e = buckets_tell cells w₀ x (get_or holders j 0) (λ q. eqb-false _ _ e (sym q))

  passes_by : (j : ℕ) → p ≤ j → j < count → alike_on cells w₀ x (get_or holders j 0) ≡ false
  passes_by j h l = by_cases (dec_le k.limit j) (λ u. k.passed j u l) (λ u. elsewhere j (last_above here k.limit j (omega (arith, k.leads, h)) (omega (arith, u))))

  pub seeking_over : p ≤ 0 → (count ≡ first_at (alike_on cells w₀ x) (take count holders)) × (w ≡ w₀)
  seeking_over h = (none_first cells w₀ holders marks heads links count k.chained x (λ j l. passes_by j (omega (arith, h)) l), k.same)

  module _ (h : 0 < p) where
    pub place_low : p - 1 < count
    place_low = omega (arith, h, k.leads, last_low here k.limit, k.within)

    pub place_room : (p - 1 < length holders) × (p - 1 < length marks) × (p - 1 < length links)
    place_room =
        let c = k.chained in
        (omega (arith, place_low, c.few, c.holders_room), omega (arith, place_low, c.few, c.marks_room), omega (arith, place_low, c.few, c.links_room))

    pub ask :
        Ready cells w × (x < 128) × (get_or holders (p - 1) 0 < 128) × (mark ≡ mark_on cells w x) × (get_or marks (p - 1) 0 ≡ mark_on cells w (get_or holders (p - 1) 0))
    ask =
        (rw k.same k.ready, k.known, k.chained.known (p - 1) place_low, rw k.same k.its_mark, rw k.same (k.chained.marked (p - 1) place_low))

    in_bucket : bucket_on cells w₀ (get_or holders (p - 1) 0) ≡ bucket_on cells w₀ x
    in_bucket = eqb-true _ _ (last_passes here k.limit (p - 1) (omega (arith, h, k.leads)))

    pub next_low : get_or links (p - 1) 0 < p
    next_low =
        omega (arith, h, k.chained.link (p - 1) place_low, last_low (λ (j : ℕ). eqb (bucket_on cells w₀ (get_or holders j 0)) (bucket_on cells w₀ (get_or holders (p - 1) 0))) (p - 1))

    module _ (b : Bool) (v : List ℕ) (e : b ≡ alike_on cells w x (get_or holders (p - 1) 0)) (s : v ≡ w) where
      test : alike_on cells w₀ x (get_or holders (p - 1) 0) ≡ b
      test = ap (λ (u : List ℕ). alike_on cells u x (get_or holders (p - 1) 0)) (sym k.same) ∙ sym e

      pub seeking_found : b ≡ true → (p - 1 ≡ first_at (alike_on cells w₀ x) (take count holders)) × (v ≡ w₀)
      seeking_found t = (one_first cells w₀ holders marks heads links count k.chained x (p - 1) place_low (test ∙ t), s ∙ k.same)

      pub seeking_more : b ≡ false → Seeking w₀ cells holders marks heads links count x mark v (get_or links (p - 1) 0)
      seeking_more f = record {
        ready = k.ready;
        chained = k.chained;
        known = k.known;
        its_mark = k.its_mark;
        same = s ∙ k.same;
        limit = p - 1;
        within = omega (arith, place_low);
        leads = k.chained.link (p - 1) place_low ∙ ap (λ (q : ℕ). last_holder cells w₀ holders q (p - 1)) in_bucket;
        passed = λ j l u. by_cases (ℕ_discrete j (p - 1)) (λ q. ap (λ (i : ℕ). alike_on cells w₀ x (get_or holders i 0)) q ∙ test ∙ f) (λ d. passes_by j (after j l d) u);
      }
        where
          after : (j : ℕ) → p - 1 ≤ j → (j ≡ p - 1 → ⊥) → p ≤ j
          after j l d = by_cases (dec_le p j) (λ u. u) (λ u. absurd (d (omega (arith, l, u, h))))

-- a new holder comes last, in front of its bucket
module _ (cells : ℕ) (w holders marks heads links : List ℕ) (count : ℕ) (k : Chained cells w holders marks heads links count) (x mark bucket : ℕ)
    (room : count < 128) (known : x < 128) (its_mark : mark ≡ mark_on cells w x) (its-bucket : bucket ≡ bucket_on cells w x)
    (new : count ≤ first_at (alike_on cells w x) (take count holders)) where
  abbrev then : List ℕ
  then = set holders count x

  last : get_or then count 0 ≡ x
  last = get_or-set_same holders count x 0 (omega (arith, room, k.holders_room))

  before : (i : ℕ) → i < count → get_or then i 0 ≡ get_or holders i 0
  before i h = get_or-set_other holders count i x 0 (λ e. omega (arith, e, h))

  -- every place is the last or one before
  either : {X : ℕ → Type 0} → X count → ((i : ℕ) → i < count → X i) → (i : ℕ) → i < count + 1 → X i
  either {X} z f i h = by_cases (ℕ_discrete i count) (λ e. rw e z) (λ d. f i (low d))
    where
      low : (i ≡ count → ⊥) → i < count
      low d = by_cases (dec_le count i) (λ u. absurd (d (omega (arith, u, h)))) (λ u. omega (arith, u))

  -- the new one is like none before
  unlike : (j : ℕ) → j < count → alike_on cells w x (get_or holders j 0) ≡ true → ⊥
  unlike j h e =
      let l = length-take-le count holders (omega (arith, k.holders_room, room)) in
      omega (arith, new, h, first_at_some (alike_on cells w x) 0 (take count holders) j (omega (arith, h, l)) (ap (alike_on cells w x) (get_or-take count holders j 0 h) ∙ e))

  lasts_agree : (b n : ℕ) → n ≤ count → last_holder cells w holders b n ≡ last_holder cells w then b n
  lasts_agree b n h =
      last_agree (λ (j : ℕ). eqb (bucket_on cells w (get_or holders j 0)) b) (λ (j : ℕ). eqb (bucket_on cells w (get_or then j 0)) b) n
      (λ j l. ap (λ (y : ℕ). eqb (bucket_on cells w y) b) (sym (before j (omega (arith, l, h)))))

  heads_after : (b : ℕ) → b < 256 → get_or (set heads bucket (count + 1)) b 0 ≡ last_holder cells w then b (count + 1)
  heads_after b h = by_cases (ℕ_discrete b bucket) here there
    where
      here : b ≡ bucket → get_or (set heads bucket (count + 1)) b 0 ≡ last_holder cells w then b (count + 1)
      here e =
          ap (λ (i : ℕ). get_or (set heads bucket (count + 1)) i 0) e ∙ get_or-set_same heads bucket (count + 1) 0 (omega (arith, h, e, k.heads_room))
          ∙ add-one count
          ∙ sym (last_yes (λ (j : ℕ). eqb (bucket_on cells w (get_or then j 0)) b) count (eq-eqb _ _ (ap (bucket_on cells w) last ∙ sym its-bucket ∙ sym e)))
          ∙ ap (last_below (λ (j : ℕ). eqb (bucket_on cells w (get_or then j 0)) b)) (sym (add-one count))

      there : (b ≡ bucket → ⊥) → get_or (set heads bucket (count + 1)) b 0 ≡ last_holder cells w then b (count + 1)
      there d =
          get_or-set_other heads bucket b (count + 1) 0 d ∙ k.head b h ∙ lasts_agree b count (omega arith)
          ∙ sym (last_no (λ (j : ℕ). eqb (bucket_on cells w (get_or then j 0)) b) count (ne_eqb _ _ (λ e. d (sym e ∙ ap (bucket_on cells w) last ∙ sym its-bucket))))
          ∙ ap (last_below (λ (j : ℕ). eqb (bucket_on cells w (get_or then j 0)) b)) (sym (add-one count))

  link_last : get_or (set links count (get_or heads bucket 0)) count 0 ≡ last_holder cells w then (bucket_on cells w (get_or then count 0)) count
  link_last =
      get_or-set_same links count (get_or heads bucket 0) 0 (omega (arith, room, k.links_room))
      ∙ ap (λ (n : ℕ). get_or heads n 0) its-bucket
      ∙ k.head (bucket_on cells w x) (bucket_few _ _)
      ∙ lasts_agree (bucket_on cells w x) count (omega arith)
      ∙ ap (λ (y : ℕ). last_holder cells w then (bucket_on cells w y) count) (sym last)

  link_before : (i : ℕ) → i < count → get_or (set links count (get_or heads bucket 0)) i 0 ≡ last_holder cells w then (bucket_on cells w (get_or then i 0)) i
  link_before i h =
      get_or-set_other links count i (get_or heads bucket 0) 0 (λ e. omega (arith, e, h))
      ∙ k.link i h
      ∙ lasts_agree (bucket_on cells w (get_or holders i 0)) i (omega (arith, h))
      ∙ ap (λ (y : ℕ). last_holder cells w then (bucket_on cells w y) i) (sym (before i h))

  abbrev AlikeAt : ℕ → ℕ → Type 0
  AlikeAt i j = alike_on cells w (get_or then i 0) (get_or then j 0) ≡ true

  apart_after : (i j : ℕ) → i < count + 1 → j < count + 1 → AlikeAt i j → i ≡ j
  apart_after i j h l = either {X = λ (i : ℕ). AlikeAt i j → i ≡ j} first others i h
    where
      first : AlikeAt count j → count ≡ j
      first = either {X = λ (j : ℕ). AlikeAt count j → count ≡ j} (λ e. refl) (λ n u e. absurd (unlike n u (ap (λ (y : ℕ). alike_on cells w y (get_or holders n 0)) (sym last) ∙ ap (alike_on cells w (get_or then count 0)) (sym (before n u)) ∙ e))) j l

      others : (n : ℕ) → n < count → AlikeAt n j → n ≡ j
      others n u = either {X = λ (j : ℕ). AlikeAt n j → n ≡ j}
          (λ e. absurd (unlike n u (alike_sym cells w (get_or holders n 0) x (ap (λ (y : ℕ). alike_on cells w y x) (sym (before n u)) ∙ ap (alike_on cells w (get_or then n 0)) (sym last) ∙ e))))
          (λ m v e. k.apart n m u v (ap (λ (y : ℕ). alike_on cells w y (get_or holders m 0)) (sym (before n u)) ∙ ap (alike_on cells w (get_or then n 0)) (sym (before m v)) ∙ e)) j l

  pub chained_new : Chained cells w (set holders count x) (set marks count mark) (set heads bucket (count + 1)) (set links count (get_or heads bucket 0)) (count + 1)
  chained_new = record {
    holders_room = length-set holders count x ∙ k.holders_room;
    marks_room = length-set marks count mark ∙ k.marks_room;
    heads_room = length-set heads bucket (count + 1) ∙ k.heads_room;
    links_room = length-set links count (get_or heads bucket 0) ∙ k.links_room;
    few = omega (arith, room);
    known = either {X = λ (i : ℕ). get_or then i 0 < 128} (omega (arith, last, known)) (λ i h. omega (arith, before i h, k.known i h));
    marked = either {X = λ (i : ℕ). get_or (set marks count mark) i 0 ≡ mark_on cells w (get_or then i 0)}
        (get_or-set_same marks count mark 0 (omega (arith, room, k.marks_room)) ∙ its_mark ∙ ap (mark_on cells w) (sym last))
        (λ i h. get_or-set_other marks count i mark 0 (λ e. omega (arith, e, h)) ∙ k.marked i h ∙ ap (mark_on cells w) (sym (before i h)));
    apart = apart_after;
    head = heads_after;
    link = either {X = λ (i : ℕ). get_or (set links count (get_or heads bucket 0)) i 0 ≡ last_holder cells w then (bucket_on cells w (get_or then i 0)) i} link_last link_before;
  }
