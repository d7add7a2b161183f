mod Behind
mod Within
