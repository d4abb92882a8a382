-- The stack of a pass over texts that are sorted from their ends, the greatest first: it gives the first written text that ends in
-- each text.
use Rattle.std.proofs.Common.{◌≡◌, ℕ, ◌+◌, ◌<◌, ◌≤◌, true, false, min, ◌&&◌, List, [], ◌∷◌, Option, Some, None, inl, inr, ⊎_elim, refl, sym, ap, subst, ◌∙◌, true≢false, arith, leb, ltb}
use Rattle.std.specs.Prelude.{◌⊎◌, ⊤}
use Rattle.std.proofs.lemmas.Bool.{and_parts}
use Rattle.std.proofs.lemmas.Bool.Decides.{nat_tests}
use Rattle.std.specs.List.{slice_get}
use Rattle.std.specs.Option.{unwrap_or}
use Rattle.std.specs.Ordering.{is_gt}
use Rattle.lib_types.proofs.SortedPairs.{by_test}
use Rattle.string_pool.specs.Backward.{AreBackward, back_cmp}
use Rattle.string_pool.specs.Hosts.{AreDifferent, host_of, least, left_below, least_above}
use Rattle.string_pool.specs.SharedEnds.{ends_in, is_written}
use Rattle.string_pool.specs.declared.backward.Numbered.{Numbered}
use Rattle.string_pool.proofs.Ends.{ends_itself, ends_through, ends_either, ends_same, ends_between}
use Rattle.string_pool.proofs.Gets.{first_is, get_same}
use Rattle.string_pool.proofs.Written.{written_same, not_written}

-- ---- the items of a stack, the last one first

abbrev Among : Numbered → List Numbered → Type 0
Among b [] = ⊥
Among b (c ∷ cs) = (b ≡ c) ⊎ Among b cs

-- each text is at most as great as those below it
abbrev Rising : List Numbered → Type 0
Rising [] = ⊤
Rising (b ∷ bs) = ((c : Numbered) → Among c bs → is_gt (back_cmp b.text.now c.text.now) ≡ false) × Rising bs

least_low : (f : Option ℕ) (n : ℕ) → least f n ≤ n
least_low None n = omega arith
least_low (Some m) n = omega arith

module _ (t : List ℕ) where
  left_among : (b : Numbered) (bs : List Numbered) → Among b (left_below t bs) → Among b bs
  left_among b [] h = h
  left_among b (c ∷ cs) h = by_test (ends_in t c.text.now)
      (λ yes. inr (left_among b cs (rw yes at h)))
      (λ no. rw no at h)

  left_rising : (bs : List Numbered) → Rising bs → Rising (left_below t bs)
  left_rising [] h = h
  left_rising (c ∷ cs) h = by_test (ends_in t c.text.now)
      (λ yes. rw yes (left_rising cs h.1))
      (λ no. rw no h)

  -- no item that is left ends in the text
  none_left : (bs : List Numbered) → Rising bs → ((c : Numbered) → Among c bs → is_gt (back_cmp t c.text.now) ≡ false)
      → (b : Numbered) → Among b (left_below t bs) → ends_in t b.text.now ≡ true → ⊥
  none_left [] rising above b h ends = h
  none_left (c ∷ cs) rising above b h ends = by_test (ends_in t c.text.now)
      (λ yes. none_left cs rising.1 (λ d in_cs. above d (inr in_cs)) b (rw yes at h) ends)
      (λ no.
      let in_all : Among b (c ∷ cs) = rw no at h in
      ⊎_elim
      (λ same. true≢false (sym ends ∙ ap (λ (d : Numbered). ends_in t d.text.now) same ∙ no))
      (λ deeper. true≢false (sym (ends_between t c.text.now b.text.now (above c (inl refl)) (rising.0 b deeper) ends) ∙ no))
      in_all)

  -- what the numbers of the items above give
  least_known : (f : Option ℕ) (m : ℕ) (bs : List Numbered) → f ≡ Some m → (r : ℕ) × (least_above t f bs ≡ Some r) × (r ≤ m)
  least_known f m [] h = (m, h, omega arith)
  least_known f m (c ∷ cs) h = by_test (ends_in t c.text.now)
      (λ yes.
      let low : least f c.number ≤ m = subst (λ o. least o c.number ≤ m) (sym h) (omega arith) in
      let rest = least_known (Some (least f c.number)) (least f c.number) cs refl in
      rw yes (rest.0, rest.1, omega (arith, rest.2, low)))
      (λ no. rw no (m, h, omega arith))

  -- an item is left, or its number counts
  left_or_counts : (f : Option ℕ) (bs : List Numbered) (b : Numbered) → Among b bs → Among b (left_below t bs) ⊎ ((r : ℕ) × (least_above t f bs ≡ Some r) × (r ≤ b.number) × (ends_in t b.text.now ≡ true))
  left_or_counts f [] b h = absurd h
  left_or_counts f (c ∷ cs) b h = by_test (ends_in t c.text.now)
      (λ yes. rw yes (⊎_elim
      (λ same.
      let rest = least_known (Some (least f c.number)) (least f c.number) cs refl in
      let number : b.number ≡ c.number = ap (λ (d : Numbered). d.number) same in
      let text : ends_in t b.text.now ≡ true = ap (λ (d : Numbered). ends_in t d.text.now) same ∙ yes in
      inr (rest.0, rest.1, omega (arith, rest.2, least_low f c.number, number), text))
      (λ deeper. left_or_counts (Some (least f c.number)) cs b deeper)
      h))
      (λ no. rw no (inl h))

  -- the least number is that of an item
  record Counted (bs : List Numbered) (r : ℕ) : Type 0 where
    item : Numbered
    among : Among item bs
    ends : ends_in t item.text.now ≡ true
    number : item.number ≡ r

  least_one : (f : Option ℕ) (n r : ℕ) → least f n ≡ r → (f ≡ Some r) ⊎ (n ≡ r)
  least_one None n r h = inr h
  least_one (Some m) n r h = by_test (leb m n)
      (λ low. inl (ap (λ k. Some k) (smaller m n low) ∙ ap (λ k. Some k) h))
      (λ high. inr (larger m n high ∙ h))
    where
      smaller : (m n : ℕ) → leb m n ≡ true → m ≡ min m n
      smaller m n low = grind (arith, nat_tests, low)

      larger : (m n : ℕ) → leb m n ≡ false → n ≡ min m n
      larger m n high = grind (arith, nat_tests, high)

  counted : (f : Option ℕ) (bs : List Numbered) (r : ℕ) → least_above t f bs ≡ Some r → (f ≡ Some r) ⊎ Counted bs r
  counted f [] r h = inl h
  counted f (c ∷ cs) r h = by_test (ends_in t c.text.now)
      (λ yes. ⊎_elim
      (λ given.
      let is : least f c.number ≡ r = cc in
      ⊎_elim (λ before. inl before) (λ here. inr (record { item = c; among = inl refl; ends = yes; number = here })) (least_one f c.number r is))
      (λ deeper. inr (record { item = deeper.item; among = inr deeper.among; ends = deeper.ends; number = deeper.number }))
      (counted (Some (least f c.number)) cs r (rw yes at h)))
      (λ no. inl (rw no at h))

-- ---- the pass

-- an item of the list that is before this index
pub record Before (items : List Numbered) (count : ℕ) (item : Numbered) : Type 0 where
  pub index : ℕ
  pub less : index < count
  pub there : slice_get items index ≡ Some item

module _ (ts : List (List ℕ)) (items : List Numbered) where
  -- the number of an item of the stack is that of a written text that ends in it
  pub record Sound (count : ℕ) (b : Numbered) : Type 0 where
    pub item : Numbered
    pub before : Before items count item
    pub writes : is_written ts item.text.now ≡ true
    pub ends : ends_in b.text.now item.text.now ≡ true
    pub number : b.number ≡ item.number

  -- an item that was met ends in an item of the stack, whose number is at most as great if the item is written
  pub record Covered (stack : List Numbered) (item : Numbered) : Type 0 where
    pub by_item : Numbered
    pub among : Among by_item stack
    pub ends : ends_in by_item.text.now item.text.now ≡ true
    pub low : is_written ts item.text.now ≡ true → by_item.number ≤ item.number

  -- the text of an item of the stack was met
  pub record Placed (count : ℕ) (b : Numbered) : Type 0 where
    pub item : Numbered
    pub before : Before items count item
    pub text : item.text.now ≡ b.text.now

  pub record IsStack (count : ℕ) (stack : List Numbered) : Type 0 where
    pub sound : (b : Numbered) → Among b stack → Sound count b
    pub cover : (y : Numbered) → Before items count y → Covered stack y
    pub placed : (b : Numbered) → Among b stack → Placed count b
    pub rising : Rising stack

  pub no_stack : IsStack 0 []
  no_stack = record {
    sound = λ b h. absurd h;
    cover = λ y h. absurd (omega (arith, h.less));
    placed = λ b h. absurd h;
    rising = tt;
  }

  earlier : (count : ℕ) (y : Numbered) → Before items count y → Before items (count + 1) y
  earlier count y h = record { index = h.index; less = omega (arith, h.less); there = h.there }

  -- one more item
  module _ (apart : AreDifferent ts) (back : AreBackward ts items) (count : ℕ) (x : Numbered) (here : slice_get items count ≡ Some x)
      (stack : List Numbered) (h : IsStack count stack) where
    abbrev t : List ℕ
    t = x.text.now

    abbrev rest : List Numbered
    rest = left_below t stack

    -- all texts that were met are at least as great
    above : (y : Numbered) → Before items count y → is_gt (back_cmp t y.text.now) ≡ false
    above y before = back.falls before.index count y x before.there here (omega (arith, before.less))

    above_stack : (b : Numbered) → Among b stack → is_gt (back_cmp t b.text.now) ≡ false
    above_stack b among =
        let p = h.placed b among in
        subst (λ (u : List ℕ). is_gt (back_cmp t u) ≡ false) p.text (above p.item p.before)

    -- an item that was met and ends in the text is covered by an item that is taken
    record Taken (y : Numbered) : Type 0 where
      least_number : ℕ
      is : least_above t None stack ≡ Some least_number
      low : is_written ts y.text.now ≡ true → least_number ≤ y.number

    covers : (y : Numbered) → Before items count y → ends_in t y.text.now ≡ true → Taken y
    covers y before ends =
        let c = h.cover y before in
        let b = c.by_item in
        let inside : ends_in t b.text.now ≡ true =
        ⊎_elim (λ (e : ends_in t b.text.now ≡ true). e)
        (λ (e : ends_in b.text.now t ≡ true).
        let turned : t ≡ b.text.now = ends_same b.text.now t e (above_stack b c.among) in
        subst (λ (u : List ℕ). ends_in t u ≡ true) turned (ends_itself t))
        (ends_either y.text.now t b.text.now ends c.ends) in
        ⊎_elim
        (λ left. absurd (none_left t stack h.rising above_stack b left inside))
        (λ counts. record { least_number = counts.0; is = counts.1; low = λ w. omega (arith, counts.2, c.low w) })
        (left_or_counts t None stack b c.among)

    -- an item that ends in the text is the text, or was met before it
    same_or_before : (j : ℕ) (y : Numbered) → slice_get items j ≡ Some y → ends_in t y.text.now ≡ true → (y.text.now ≡ t) ⊎ Before items count y
    same_or_before j y there ends = by_test (ltb j count)
        (λ less. inr (record { index = j; less = grind (arith, nat_tests, less); there = there }))
        (λ more.
        let low : is_gt (back_cmp y.text.now t) ≡ false = back.falls count j x y here there (grind (arith, nat_tests, more)) in
        inl (ends_same t y.text.now ends low))

    -- a text that no item above ends in is written
    none_above : least_above t None stack ≡ None → is_written ts t ≡ true
    none_above none = by_test (is_written ts t) (λ w. w) (λ w.
        let longer = not_written ts t w in
        let item = back.each longer.index longer.other longer.there in
        let ends : ends_in t item.item.text.now ≡ true = subst (λ (u : List ℕ). ends_in t u ≡ true) (sym item.text_is) longer.ends in
        ⊎_elim
        (λ same. absurd (longer.differs (sym same ∙ item.text_is)))
        (λ before. let found = covers item.item before ends in let wrong : Some found.least_number ≡ None = sym found.is ∙ none in absurd (cc))
        (same_or_before item.index item.item item.there ends))

    abbrev host : ℕ
    host = unwrap_or (least_above t None stack) x.number

    numbered_x : slice_get ts x.number ≡ Some t
    numbered_x = (back.numbered count x here).is

    -- the host is a written text that ends in the text
    is_host : Sound (count + 1) (record { text = x.text; number = host })
    is_host = by (least_above t None stack) refl
      where
        by : (o : Option ℕ) → least_above t None stack ≡ o → Sound (count + 1) (record { text = x.text; number = unwrap_or o x.number })
        by None e = record { item = x; before = record { index = count; less = omega arith; there = here }; writes = none_above e; ends = ends_itself t; number = refl }
        by (Some r) e = ⊎_elim
            (λ none. absurd (cc))
            (λ c.
            let s = h.sound c.item c.among in
            record { item = s.item; before = earlier count s.item s.before; writes = s.writes; ends = ends_through s.item.text.now c.item.text.now t s.ends c.ends; number = sym c.number ∙ s.number })
            (counted t None stack r e)

    -- a written text that ends in the text has no lower number
    host_low : (k : ℕ) (other : List ℕ) → slice_get ts k ≡ Some other → is_written ts other ≡ true → ends_in t other ≡ true → host ≤ k
    host_low k other there w ends =
        let item = back.each k other there in
        let at : ends_in t item.item.text.now ≡ true = subst (λ (u : List ℕ). ends_in t u ≡ true) (sym item.text_is) ends in
        let writes : is_written ts item.item.text.now ≡ true = subst (λ (u : List ℕ). is_written ts u ≡ true) (sym item.text_is) w in
        ⊎_elim
        (λ same.
        let other_is : other ≡ t = sym item.text_is ∙ same in
        let own : is_written ts t ≡ true = subst (λ (u : List ℕ). is_written ts u ≡ true) other_is w in
        let number : k ≡ x.number = apart k x.number t (there ∙ ap (λ (u : List ℕ). Some u) other_is) numbered_x in
        let s = is_host in
        let host_text : t ≡ s.item.text.now = written_same ts t s.item.text.now s.item.number own (back.numbered s.before.index s.item s.before.there).is s.ends in
        let host_number : s.item.number ≡ x.number = apart s.item.number x.number t ((back.numbered s.before.index s.item s.before.there).is ∙ ap (λ (u : List ℕ). Some u) (sym host_text)) numbered_x in
        omega (arith, s.number, host_number, number))
        (λ before.
        let found = covers item.item before at in
        let is : host ≡ found.least_number = ap (λ o. unwrap_or o x.number) found.is in
        omega (arith, is, found.low writes, item.number_is))
        (same_or_before item.index item.item item.there at)

    pub host_is : host ≡ host_of ts t
    host_is =
        let s = is_host in
        let there = (back.numbered s.before.index s.item s.before.there).is in
        let passes : (is_written ts s.item.text.now && ends_in t s.item.text.now) ≡ true = rw (s.writes, s.ends) refl in
        let first = first_is (λ other. is_written ts other && ends_in t other) ts s.item.number s.item.text.now there passes
        (λ j y at both. let parts = and_parts (is_written ts y) (ends_in t y) both in omega (arith, s.number, host_low j y at parts.0 parts.1)) in
        s.number ∙ sym first

    pub next_stack : IsStack (count + 1) (record { text = x.text; number = host } ∷ rest)
    next_stack = record {
      sound = λ b among. ⊎_elim
          (λ top. subst (Sound (count + 1)) (sym top) is_host)
          (λ deeper.
          let s = h.sound b (left_among t b stack deeper) in
          record { item = s.item; before = earlier count s.item s.before; writes = s.writes; ends = s.ends; number = s.number })
          among;
      cover = λ y before. by_test (ltb before.index count)
          (λ less.
          let old : Before items count y = record { index = before.index; less = grind (arith, nat_tests, less); there = before.there } in
          let c = h.cover y old in
          ⊎_elim
          (λ left. record { by_item = c.by_item; among = inr left; ends = c.ends; low = c.low })
          (λ counts.
          let is : host ≡ counts.0 = ap (λ o. unwrap_or o x.number) counts.1 in
          record {
            by_item = record { text = x.text; number = host };
            among = inl refl;
            ends = ends_through y.text.now c.by_item.text.now t c.ends counts.3;
            low = λ w. omega (arith, is, counts.2, c.low w);
          })
          (left_or_counts t None stack c.by_item c.among))
          (λ more.
          let at : before.index ≡ count = grind (arith, nat_tests, more, before.less) in
          let there : slice_get items count ≡ Some y = subst (λ i. slice_get items i ≡ Some y) at before.there in
          let same : x ≡ y = get_same items count x y here there in
          subst (Covered (record { text = x.text; number = host } ∷ rest)) same (record {
            by_item = record { text = x.text; number = host };
            among = inl refl;
            ends = ends_itself t;
            low = λ w. host_low x.number t numbered_x w (ends_itself t);
          }));
      placed = λ b among. ⊎_elim
          (λ top. subst (Placed (count + 1)) (sym top) (record { item = x; before = record { index = count; less = omega arith; there = here }; text = refl }))
          (λ deeper.
          let p = h.placed b (left_among t b stack deeper) in
          record { item = p.item; before = earlier count p.item p.before; text = p.text })
          among;
      rising = (λ c among. above_stack c (left_among t c stack among), left_rising t stack h.rising);
    }
