-- The text of the functions that are written in the language itself, one to a line.
use Rattle.std.specs.Prelude.{ℕ, List, [], ◌∷◌, ◌++◌, codes}

-- functions of arrays, and the one of `Array`, which is the last
abbrev pub on_arrays : List (List ℕ)
on_arrays =
    codes "function map(f) { const out = []; const n = this.length; for (let i = 0; i < n && i < this.length; i += 1) out.push(f(this[i], i, this)); return out; }"
    ∷ codes "function forEach(f) { const n = this.length; for (let i = 0; i < n && i < this.length; i += 1) f(this[i], i, this); }"
    ∷ codes "function filter(f) { const out = []; const n = this.length; for (let i = 0; i < n && i < this.length; i += 1) { const v = this[i]; if (f(v, i, this)) out.push(v); } return out; }"
    ∷ codes "function reduce(f, ...s) { const n = this.length; let i = 0; let a; if (s.length > 0) a = s[0]; else { if (n === 0) throw new TypeError('bad argument'); a = this[0]; i = 1; } for (; i < n && i < this.length; i += 1) a = f(a, this[i], i, this); return a; }"
    ∷ codes "function find(f) { const n = this.length; for (let i = 0; i < n; i += 1) { const v = this[i]; if (f(v, i, this)) return v; } }"
    ∷ codes "function some(f) { const n = this.length; for (let i = 0; i < n && i < this.length; i += 1) if (f(this[i], i, this)) return true; return false; }"
    ∷ codes "function every(f) { const n = this.length; for (let i = 0; i < n && i < this.length; i += 1) if (!f(this[i], i, this)) return false; return true; }"
    ∷ codes "function from(items, f) { const out = []; for (const v of items) out.push(f === undefined ? v : f(v, out.length)); return out; }"
    ∷ []

-- `forEach` of Maps and of Sets
abbrev pub on_collections : List (List ℕ)
on_collections =
    codes "function mapEach(f) { for (const [k, v] of this) f(v, k, this); }"
    ∷ codes "function setEach(f) { for (const v of this) f(v, v, this); }"
    ∷ []

-- functions of promises, and those of `Promise`
abbrev pub on_promises : List (List ℕ)
on_promises =
    codes "function catch_(f) { return this.then(undefined, f); }"
    ∷ codes "function finally_(f) { if (typeof f !== 'function') return this.then(f, f); return this.then((v) => Promise.resolve(f()).then(() => v), (e) => Promise.resolve(f()).then(() => { throw e; })); }"
    ∷ codes "function all(items) { return new Promise((done, fail) => { const out = []; let left = 1; for (const item of items) { const i = out.length; left += 1; out.push(undefined); Promise.resolve(item).then((v) => { out[i] = v; left -= 1; if (left === 0) done(out); }, fail); } left -= 1; if (left === 0) done(out); }); }"
    ∷ codes "function allSettled(items) { return new Promise((done) => { const out = []; let left = 1; const put = (i, r) => { out[i] = r; left -= 1; if (left === 0) done(out); }; for (const item of items) { const i = out.length; left += 1; out.push(undefined); Promise.resolve(item).then((value) => put(i, { status: 'fulfilled', value }), (reason) => put(i, { status: 'rejected', reason })); } left -= 1; if (left === 0) done(out); }); }"
    ∷ codes "function race(items) { return new Promise((done, fail) => { for (const item of items) Promise.resolve(item).then(done, fail); }); }"
    ∷ codes "function any(items) { return new Promise((done, fail) => { const errors = []; let left = 1; const end = () => { left -= 1; if (left === 0) fail(new AggregateError(errors, 'all rejected')); }; for (const item of items) { const i = errors.length; left += 1; errors.push(undefined); Promise.resolve(item).then(done, (e) => { errors[i] = e; end(); }); } end(); }); }"
    ∷ codes "function withResolvers() { let resolve; let reject; const promise = new Promise((a, b) => { resolve = a; reject = b; }); return { promise, resolve, reject }; }"
    ∷ []

-- functions of `timers/promises`
abbrev pub on_timers : List (List ℕ)
on_timers =
    codes "function sleep(ms, value) { return new Promise((done) => { setTimeout(done, ms, value); }); }"
    ∷ codes "function pause(value) { return new Promise((done) => { setImmediate(done, value); }); }"
    ∷ []

-- functions of emitters
abbrev pub on_emitters : List (List ℕ)
on_emitters =
    codes "function on(name, f) { if (this._events === undefined) this._events = new Map(); const list = this._events.get(name); this._events.set(name, list === undefined ? [f] : [...list, f]); return this; }"
    ∷ codes "function once(name, f) { const g = (...args) => { this.off(name, g); return f.apply(this, args); }; g.listener = f; return this.on(name, g); }"
    ∷ codes "function off(name, f) { const list = this._events === undefined ? undefined : this._events.get(name); if (list === undefined) return this; let k = list.length - 1; while (k >= 0 && list[k] !== f && list[k].listener !== f) k -= 1; if (k >= 0) this._events.set(name, [...list.slice(0, k), ...list.slice(k + 1)]); return this; }"
    ∷ codes "function emit(name, ...args) { const list = this._events === undefined ? undefined : this._events.get(name); if (list === undefined || list.length === 0) { if (name === 'error') throw args[0]; return false; } for (const f of list) f.apply(this, args); return true; }"
    ∷ []

-- lines, each ended by a line feed
abbrev pub ended : List (List ℕ) → List ℕ
ended [] = []
ended (l ∷ ls) = l ++ 10 ∷ ended ls

abbrev pub bundle_lines : List (List ℕ)
bundle_lines = on_arrays ++ on_collections ++ on_promises ++ on_timers ++ on_emitters

abbrev pub bundle : List ℕ
bundle = ended bundle_lines
