-- Where an event stands, it ends where the next one begins.
use Rattle.std.specs.Prelude.{Bool, cond, List, ◌⊎◌, ◌≡◌, ℕ, ◌+◌, ◌^◌, ◌≤◌, ◌<◌, ltb, length, get_or, None, Option, Some}
use Rattle.std.proofs.Math.Bool.{true, false}
use Rattle.std.proofs.Common.{inl, inr, ◌∙◌, ap, arith, lit<}
use Rattle.std.proofs.Math.Path.{refl}
use borrow.Author.Tests.{lt-ltb, le-ltb, ne_eqb, eqb-true}
use Rattle.std.proofs.Math.Dec.{leb, eqb}
use Rattle.number.specs.Be.{be}
use Rattle.event.specs.Date.{is_date}
use Rattle.event.specs.Meaning.{Meaning}
use Rattle.event.specs.declared.Event.{Event}
use Rattle.tape.specs.End.{after_size, after_number, after_negative, after_bytes, end_behind, end_of}
use Rattle.tape.specs.Item.{plain, numbered, negative, date_in, bytes_at, data_in, text_in, of_kind, item_at, event, read_at}
use Rattle.tape.specs.ItemLaws.{reads_item}
use Rattle.number.specs.Part.{part}
use Rattle.tape.specs.Value.{eight_at}
use Rattle.tape.specs.declared.item.Item.{Item}
use Rattle.utf.specs.Unicode.{is_utf8}

-- an answer to a step, and the end: where the answer is an item, the next event begins there
abbrev Ends : Option Item → Option ℕ → Type 0
Ends (Some i) e = e ≡ Some i.next
Ends None e = Unit {0}

ends_if : (b : Bool) (x y : Option Item) (e : Option ℕ) → (b ≡ true → Ends x e) → Ends y e → Ends (cond b x y) e
ends_if true x y e f g = f refl
ends_if false x y e f g = g

module _ (tape : List ℕ) where
  ends_numbered : (f : ℕ → Event) (v : Option (ℕ × ℕ)) → Ends (numbered f v) (after_number v)
  unfolding numbered plain after_number
  ends_numbered f (Some (n, next)) = refl
  ends_numbered f None = tt

  ends_negative : (v : Option (ℕ × ℕ)) → Ends (negative v) (after_negative v)
  unfolding negative plain after_negative
  ends_negative (Some (k, next)) = ends_if (ltb k (2 ^ 63)) _ _ _ (λ e. rw e) tt
  ends_negative None = tt

  ends_eight : (f : ℕ → Event) (at : ℕ) → Ends (numbered f (eight_at tape at)) (after_size (length tape) at 8)
  unfolding numbered plain eight_at after_size
  ends_eight f at = go (leb (at + 8) (length tape)) refl
    where
      go : (b : Bool) → leb (at + 8) (length tape) ≡ b → Ends (numbered f (eight_at tape at)) (after_size (length tape) at 8)
      go true e = rw e
      go false e = rw e tt

  ends_date : (at : ℕ) → Ends (date_in (eight_at tape at)) (after_size (length tape) at 8)
  unfolding date_in plain eight_at after_size
  ends_date at = go (leb (at + 8) (length tape)) refl
    where
      go : (b : Bool) → leb (at + 8) (length tape) ≡ b → Ends (date_in (eight_at tape at)) (after_size (length tape) at 8)
      go true e = rw (e, date_in) (ends_if (is_date (be (part tape at 8))) _ _ _ (λ d. refl) tt)
      go false e = rw e tt

  ends_data : (v : Option (ℕ × ℕ)) → Ends (data_in tape v) (after_bytes (length tape) v)
  unfolding data_in bytes_at after_bytes after_size
  ends_data (Some (n, at)) = ends_if (leb (at + n) (length tape)) _ _ _ (λ e. rw e) tt
  ends_data None = tt

  ends_text : (v : Option (ℕ × ℕ)) → Ends (text_in tape v) (after_bytes (length tape) v)
  unfolding text_in bytes_at after_bytes after_size
  ends_text (Some (n, at)) = ends_if (leb (at + n) (length tape)) _ _ _ (λ e. ends_if (is_utf8 (part tape at n)) _ _ _ (λ u. rw e) tt) tt
  ends_text None = tt

  ends_kind : (k at : ℕ) → Ends (of_kind tape k at) (end_behind tape k at)
  unfolding of_kind end_behind plain
  ends_kind k at =
      ends_if (eqb k 0x01) _ _ _ (λ e. rw (eqb-true k 0x01 e))
      (ends_if (eqb k 0x02) _ _ _ (λ e. rw (eqb-true k 0x02 e))
      (ends_if (eqb k 0x03) _ _ _ (λ e. rw (eqb-true k 0x03 e) (ends_numbered _ _))
      (ends_if (eqb k 0x04) _ _ _ (λ e. rw (eqb-true k 0x04 e) (ends_negative _))
      (ends_if (eqb k 0x05) _ _ _ (λ e. rw (eqb-true k 0x05 e) (ends_eight _ at))
      (ends_if (eqb k 0x06) _ _ _ (λ e. rw (eqb-true k 0x06 e) (ends_date at))
      (ends_if (eqb k 0x07) _ _ _ (λ e. rw (eqb-true k 0x07 e) (ends_numbered _ _))
      (ends_if (eqb k 0x08) _ _ _ (λ e. rw (eqb-true k 0x08 e) (ends_data _))
      (ends_if (eqb k 0x09) _ _ _ (λ e. rw (eqb-true k 0x09 e) (ends_text _))
      (ends_if (eqb k 0x0A) _ _ _ (λ e. rw (eqb-true k 0x0A e))
      (ends_if (eqb k 0x0B) _ _ _ (λ e. rw (eqb-true k 0x0B e) (ends_numbered _ _))
      (ends_if (eqb k 0x0C) _ _ _ (λ e. rw (eqb-true k 0x0C e))
      (ends_if (eqb k 0x0D) _ _ _ (λ e. rw (eqb-true k 0x0D e) (ends_numbered _ _))
      (ends_if (eqb k 0x0E) _ _ _ (λ e. rw (eqb-true k 0x0E e))
      tt)))))))))))))

  -- no kind, by the tests of the code
  pub behind_none : (k at : ℕ) → 0x0A ≤ k → ((k ≡ 0x0A) ⊎ ((k ≡ 0x0C) ⊎ (k ≡ 0x0E)) → ⊥) → ((k ≡ 0x03) ⊎ ((k ≡ 0x07) ⊎ ((k ≡ 0x0B) ⊎ (k ≡ 0x0D))) → ⊥) → end_behind tape k at ≡ None
  unfolding end_behind
  behind_none k at h f g =
      let not : (n : ℕ) → n < 0x0A → eqb k n ≡ false = λ n l. ne_eqb k n (omega arith) in
      simp (
        not 0x01 (lit< tt),
        not 0x02 (lit< tt),
        not 0x03 (lit< tt),
        not 0x04 (lit< tt),
        not 0x05 (lit< tt),
        not 0x06 (lit< tt),
        not 0x07 (lit< tt),
        not 0x08 (lit< tt),
        not 0x09 (lit< tt),
        ne_eqb k 0x0A (λ e. f (inl e)),
        ne_eqb k 0x0B (λ e. g (inr (inr (inl e)))),
        ne_eqb k 0x0C (λ e. f (inr (inl e))),
        ne_eqb k 0x0D (λ e. g (inr (inr (inr e)))),
        ne_eqb k 0x0E (λ e. f (inr (inr e))),
      )

  module _ (at : ℕ) where
    -- the kind that stands at a place decides
    pub end_of_law : (k : ℕ) → at < length tape → get_or tape at 0 ≡ k → end_of tape at ≡ end_behind tape k (at + 1)
    unfolding end_of
    end_of_law k h e = rw (lt-ltb at (length tape) h, e)

    pub end_past : length tape ≤ at → end_of tape at ≡ None
    unfolding end_of
    end_past h = rw (le-ltb at (length tape) h)

    ends_item : Ends (item_at tape at) (end_of tape at)
    unfolding item_at end_of
    ends_item = ends_if (ltb at (length tape)) _ _ _ (λ e. rw e (ends_kind (get_or tape at 0) (at + 1))) tt

    pub end_item : (i : Item) → item_at tape at ≡ Some i → end_of tape at ≡ Some i.next
    end_item i e = rw e at ends_item

    -- the same by meanings
    pub end_reads : (m : Meaning) (next : ℕ) → read_at tape at ≡ event m next → end_of tape at ≡ Some next
    end_reads m next e =
        let r = reads_item tape at m next e in
        end_item r.0 r.1 ∙ ap Some r.3
