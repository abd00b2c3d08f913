-- What is read as a book of two areas is one, or is damaged.
use Rattle.std.proofs.Common.{◌≡◌, ◌≢◌, ◌⊎◌, inl, inr, ◌+◌, ◌<◌, ◌≤◌, ℕ, List, [], ◌∷◌, ◌++◌, length, take, drop, get_or, refl, sym, ap, subst, ◌∙◌, arith, append_assoc, length-append, take-append-drop}
use Rattle.std.proofs.lemmas.List.{length-take, length-drop, drop-drop, drop_more}
use Rattle.walter_journal.specs.Layout.{records, span_of, HasBehind}
use Rattle.walter_journal.proofs.Layouts.{span_is}
use Rattle.walter_checkpoint.specs.Areas.{Shape, area_size, header_of_two, IsAreaDamaged, IsDamaged}
use Rattle.walter_checkpoint.specs.Books.{IsLivePart, IsAreaRead, IsRead}
use Rattle.walter_checkpoint.specs.Packs.{pack_of}
use Rattle.walter_checkpoint.specs.declared.book.Live.{Live}
use Rattle.walter_checkpoint.specs.declared.book.Live.TheVariants.{A, B}

-- the gates and records stand within the bytes
pub behind_within : (front bytes : List ℕ) (bodies : List (List ℕ)) → HasBehind front bytes bodies → length front + span_of bodies ≤ length bytes
behind_within front bytes bodies content = omega (arith, ap length content.is, length-append (front ++ records bodies) (content.gate ∷ content.rest), span_is front bodies)

-- and in longer bytes too
behind_longer : (front bytes tail : List ℕ) (bodies : List (List ℕ)) → HasBehind front bytes bodies → HasBehind front (bytes ++ tail) bodies
behind_longer front bytes tail bodies content = record {
  gate = content.gate;
  rest = content.rest ++ tail;
  is = ap (λ l. l ++ tail) content.is ∙ append_assoc (front ++ records bodies) (content.gate ∷ content.rest) tail;
  closed = content.closed;
  fit = content.fit;
}

-- and behind other bytes in front
behind_more : (more front bytes : List ℕ) (bodies : List (List ℕ)) → HasBehind front bytes bodies → HasBehind (more ++ front) (more ++ bytes) bodies
behind_more more front bytes bodies content = record {
  gate = content.gate;
  rest = content.rest;
  is = ap (λ l. more ++ l) content.is ∙ sym (append_assoc more (front ++ records bodies) (content.gate ∷ content.rest)) ∙ ap (λ l. l ++ content.gate ∷ content.rest) (sym (append_assoc more front (records bodies)));
  closed = content.closed;
  fit = content.fit;
}

module _ (shape : Shape) (bytes : List ℕ) (least : 47 ≤ shape.capacity) (long : 8 < length bytes) (header : take 8 bytes ≡ header_of_two shape.header) where
  abbrev switch : ℕ
  switch = get_or bytes 8 0

  abbrev areas : List ℕ
  areas = drop 9 bytes

  whole : bytes ≡ header_of_two shape.header ++ switch ∷ areas
  whole = sym (take-append-drop 8 bytes) ∙ ap (λ l. l ++ drop 8 bytes) header ∙ ap (λ l. header_of_two shape.header ++ l) (drop_more bytes 8 0 long)

  -- area A as it is read
  read_a : (bodies : List (List ℕ)) (end : ℕ) → switch ≢ 1 → IsAreaRead shape.sites (take (area_size shape) (drop 9 bytes)) bodies end → IsRead shape A bytes bodies (9 + end)
  read_a bodies end not_one read =
      let pack = pack_of shape.sites read.packed in
      let front = header_of_two shape.header ++ switch ∷ [] in
      let within = behind_within pack (take (area_size shape) areas) read.behind read.content in
      let content = behind_more front pack (take (area_size shape) areas ++ drop (area_size shape) areas) read.behind (behind_longer pack (take (area_size shape) areas) (drop (area_size shape) areas) read.behind read.content) in
      record {
        packed = read.packed;
        behind = read.behind;
        are = read.are;
        front = front ++ pack;
        is_front = (switch, not_one, refl);
        short = read.short;
        within = (least, omega (arith, within, length-take (area_size shape) areas));
        content = subst (λ l. HasBehind (front ++ pack) l read.behind) (ap (λ l. front ++ l) (take-append-drop (area_size shape) areas) ∙ sym whole) content;
        place = omega (arith, read.place);
      }

  -- and area B
  read_b : (bodies : List (List ℕ)) (end : ℕ) → switch ≡ 1 → IsAreaRead shape.sites (take (area_size shape) (drop (9 + area_size shape) bytes)) bodies end → IsRead shape B bytes bodies (9 + area_size shape + end)
  read_b bodies end is_one read =
      let a = area_size shape in
      let pack = pack_of shape.sites read.packed in
      let area = take a (drop (9 + a) bytes) in
      let within = behind_within pack area read.behind read.content in
      let size_first : length (take a areas) ≡ a = omega (arith, within, length-take a (drop (9 + a) bytes), length-drop (9 + a) bytes, length-take a areas, length-drop 9 bytes) in
      let front = header_of_two shape.header ++ 1 ∷ take a areas in
      let rest : area ++ drop a (drop (9 + a) bytes) ≡ drop a areas = take-append-drop a (drop (9 + a) bytes) ∙ sym (drop-drop a 9 bytes) in
      let content = behind_more front pack (area ++ drop a (drop (9 + a) bytes)) read.behind (behind_longer pack area (drop a (drop (9 + a) bytes)) read.behind read.content) in
      let all : front ++ (area ++ drop a (drop (9 + a) bytes)) ≡ bytes = ap (λ l. front ++ l) rest ∙ ap (λ l. header_of_two shape.header ++ 1 ∷ l) (take-append-drop a areas) ∙ ap (λ s. header_of_two shape.header ++ s ∷ areas) (sym is_one) ∙ sym whole in
      record {
        packed = read.packed;
        behind = read.behind;
        are = read.are;
        front = front ++ pack;
        is_front = (take a areas, size_first, refl);
        short = read.short;
        within = (least, omega (arith, within, length-take a (drop (9 + a) bytes)));
        content = subst (λ l. HasBehind (front ++ pack) l read.behind) all content;
        place = omega (arith, read.place, size_first, length-append (take a areas) pack);
      }

  pub read_live : (live : Live) (place : ℕ) (bodies : List (List ℕ)) (end : ℕ) → IsLivePart switch (area_size shape) live place → IsAreaRead shape.sites (take (area_size shape) (drop place bytes)) bodies end
      → IsRead shape live bytes bodies (place + end)
  read_live live place bodies end (inl a) read =
      subst (λ n. IsRead shape live bytes bodies (n + end)) (sym a.2)
      (subst (λ l. IsRead shape l bytes bodies (9 + end)) (sym a.1) (read_a bodies end a.0 (subst (λ n. IsAreaRead shape.sites (take (area_size shape) (drop n bytes)) bodies end) a.2 read)))
  read_live live place bodies end (inr b) read =
      subst (λ n. IsRead shape live bytes bodies (n + end)) (sym b.2)
      (subst (λ l. IsRead shape l bytes bodies (9 + area_size shape + end)) (sym b.1) (read_b bodies end b.0 (subst (λ n. IsAreaRead shape.sites (take (area_size shape) (drop n bytes)) bodies end) b.2 read)))

  pub damaged_live : (live : Live) (place at claimed : ℕ) → IsLivePart switch (area_size shape) live place → IsAreaDamaged shape.sites (take (area_size shape) (drop place bytes)) at claimed → IsDamaged shape bytes (place + at) claimed
  damaged_live live place at claimed part damaged =
      inr record { least = least; switch = switch; areas = areas; is = whole; place = at; live = by part }
    where
      by : IsLivePart switch (area_size shape) live place
          → ((switch ≢ 1) × (place + at ≡ 9 + at) × IsAreaDamaged shape.sites (take (area_size shape) areas) at claimed)
          ⊎ ((switch ≡ 1) × (place + at ≡ 9 + area_size shape + at) × IsAreaDamaged shape.sites (take (area_size shape) (drop (area_size shape) areas)) at claimed)
      by (inl a) = inl (a.0, ap (λ n. n + at) a.2, subst (λ n. IsAreaDamaged shape.sites (take (area_size shape) (drop n bytes)) at claimed) a.2 damaged)
      by (inr b) = inr (
        b.0,
        ap (λ n. n + at) b.2,
        subst (λ l. IsAreaDamaged shape.sites (take (area_size shape) l) at claimed) (ap (λ n. drop n bytes) b.2 ∙ sym (drop-drop (area_size shape) 9 bytes)) damaged,
      )
